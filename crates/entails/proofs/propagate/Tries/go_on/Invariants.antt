use Rattle.std.proofs.Common.{◌≤◌}
use Rattle.entails.proofs.propagate.Tries.go_on.Given as goal

abbrev pub invariant-loop-depth : goal.invariant-loop-depth
invariant-loop-depth l = l.work.left ≤ l.fn.work.left

abbrev pub decreases-loop-depth : goal.decreases-loop-depth
decreases-loop-depth l = l.work.left
