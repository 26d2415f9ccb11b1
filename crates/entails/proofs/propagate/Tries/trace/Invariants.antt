use Rattle.std.proofs.Common.{◌≡◌, ◌≤◌}
use Rattle.entails.proofs.propagate.Tries.trace.Given as goal

abbrev pub invariant-loop-d : goal.invariant-loop-d
invariant-loop-d l = (l.self.reason.len ≡ l.fn.self.reason.len) × (l.work.left ≤ l.fn.work.left)
