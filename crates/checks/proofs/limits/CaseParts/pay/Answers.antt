use Rattle.std.proofs.Common.{rules}
use Rattle.checks.proofs.Totals.{parts_case_of}
use Rattle.checks.proofs.limits.CaseParts.pay.Goals as goal

pub returns : goal.returns
returns c = rw parts_case_of (search rules)
