-- The statements about any relation, at a relation that is given, so that a contract can name them. Assumes nothing.
use Rattle.std.specs.Prelude.{◌≡◌}
use Rattle.model.specs.Request.{Comparison}
use Rattle.model.specs.Refusal.{fault}
use Rattle.model.specs.Promise.{Equivalent}
use Rattle.model.specs.Config.{Config, Bisimulation}
use Rattle.model.specs.Theory.{Initially}
use Rattle.theory.specs.Machine.{Same}
use Rattle.theory.specs.Good.{machine}

-- a bisimulation that holds at the beginning shows that two parsers are equivalent
abbrev pub BisimilarIsEquivalentOf : (Config → Config → Type 0) → Type 0
BisimilarIsEquivalentOf r = (c : Comparison) → fault c.first ≡ 0 → fault c.second ≡ 0 → Bisimulation c.first c.second r → Initially c r → Equivalent c

-- from two configurations on, the two parsers accept the same
abbrev pub AcceptAlike : Comparison → Config → Config → Type 0
AcceptAlike c a b = Same (machine c.first) (machine c.second) a b

-- of two that are equivalent, accepting alike is a bisimulation that holds at the beginning
abbrev pub AcceptingAlikeIsKept : Type 0
AcceptingAlikeIsKept =
    (c : Comparison) → fault c.first ≡ 0 → fault c.second ≡ 0 → Equivalent c → Bisimulation c.first c.second (AcceptAlike c) × Initially c (AcceptAlike c)
