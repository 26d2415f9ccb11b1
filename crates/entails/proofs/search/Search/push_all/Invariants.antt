use Rattle.std.proofs.Common.{◌≡◌}
use Rattle.entails.specs.Searches.{Learned}
use Rattle.entails.proofs.search.Search.push_all.Given as goal

abbrev pub invariant-loop-x : goal.invariant-loop-x
invariant-loop-x g l =
    (goal.iterator-loop-x g).can_next l.x-iterator ×
    (goal.iterator-loop-x g).is_finite l.x-iterator ×
    Learned l.fn.self l.self ×
    (l.self.count ≡ l.fn.self.count)
