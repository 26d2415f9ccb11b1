use Rattle.std.proofs.Common.{rules}
use Rattle.checks.proofs.Parts.{shallow-state_of}
use Rattle.checks.proofs.limits.is_shallow_state.Goals as goal

pub returns-then-are_shallow_ops : goal.returns-then-are_shallow_ops
returns-then-are_shallow_ops c = rw shallow-state_of (search rules)

pub returns-else-are_shallow_ops : goal.returns-else-are_shallow_ops
returns-else-are_shallow_ops c = rw shallow-state_of (search rules)
