use Rattle.std.proofs.Common.{◌≤◌}
use Rattle.entails.specs.Searches.{Learned}
use Rattle.entails.proofs.hunt.turns.Given as goal

abbrev pub invariant-loop-search : goal.invariant-loop-search
invariant-loop-search l = Learned l.fn.search l.search × (l.work.left ≤ l.fn.work.left)

abbrev pub decreases-loop-search : goal.decreases-loop-search
decreases-loop-search l = l.work.left
