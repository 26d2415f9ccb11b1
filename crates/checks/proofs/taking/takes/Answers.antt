use Rattle.std.proofs.Common.{rules}
use Rattle.checks.proofs.Parts.{taking_of}
use Rattle.checks.proofs.taking.takes.Goals as goal

pub returns : goal.returns
returns c = rw taking_of (search rules)
