use Rattle.std.proofs.Common.{◌≤◌}
use Rattle.entails.proofs.propagate.Tries.pass.Given as goal

abbrev pub invariant-loop-c : goal.invariant-loop-c
invariant-loop-c l = l.work.left ≤ l.fn.work.left
