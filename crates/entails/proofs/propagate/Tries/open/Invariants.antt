use Rattle.std.proofs.Common.{◌≤◌}
use Rattle.entails.proofs.propagate.Tries.open.Given as goal

abbrev pub invariant-loop-s : goal.invariant-loop-s
invariant-loop-s l = l.work.left ≤ l.fn.work.left
