use Rattle.std.proofs.Common.{rules}
use Rattle.checks.proofs.Within.{within_limits_of}
use Rattle.checks.proofs.limits.within_limits.Goals as goal

pub returns-then-are_shallow : goal.returns-then-are_shallow
returns-then-are_shallow c = rw within_limits_of (search rules)

pub returns-else-are_shallow : goal.returns-else-are_shallow
returns-else-are_shallow c = rw within_limits_of (search rules)
