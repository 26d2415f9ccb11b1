use Rattle.std.proofs.Common.{rules}
use Rattle.checks.proofs.Within.{states_within_of}
use Rattle.checks.proofs.limits.states_within.Goals as goal

pub returns-then-states-le-STATES : goal.returns-then-states-le-STATES
returns-then-states-le-STATES c = rw states_within_of (search rules)
