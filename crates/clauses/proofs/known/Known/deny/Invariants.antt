use Rattle.std.proofs.Common.{ℕ, Bool, ◌⊎◌, take}
use Rattle.clauses.specs.Clauses.{Sat}
use Rattle.clauses.specs.Known.{Allows, Kept}
use Rattle.clauses.proofs.known.Known.deny.Given as goal

abbrev pub invariant-loop-l : goal.invariant-loop-l
invariant-loop-l l =
    Kept l.initial.self l.self
    × ((v : ℕ → Bool) → Allows l.initial.self v → Sat v (take l.l-index l.clause) ⊎ Allows l.self v)
