use Rattle.std.proofs.Common.{rules}
use Rattle.checks.proofs.Totals.{parts_state_of}
use Rattle.checks.proofs.limits.StateParts.pay.Goals as goal

pub returns-in_err-left-2 : goal.returns-in_err-left-2
returns-in_err-left-2 c = rw parts_state_of (search rules)

pub returns-in_err-left-3 : goal.returns-in_err-left-3
returns-in_err-left-3 c = rw parts_state_of (search rules)

pub returns : goal.returns
returns c = rw parts_state_of (search rules)
