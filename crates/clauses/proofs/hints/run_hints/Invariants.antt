use Rattle.std.proofs.Common.{ℕ, ◌*◌, Bool}
use Rattle.clauses.specs.Clauses.{All}
use Rattle.clauses.specs.Known.{Allows, Kept}
use Rattle.clauses.specs.Steps.{clauses_of}
use Rattle.clauses.specs.Budget.{Spent}
use Rattle.clauses.proofs.hints.run_hints.Given as goal

abbrev pub invariant-loop-c : goal.invariant-loop-c
invariant-loop-c l =
    Kept l.initial.known l.known
    × ((v : ℕ → Bool) → Allows l.initial.known v → All v (clauses_of l.premises) → Allows l.known v)
    × Spent l.initial.work.left l.work.left (l.c-index * l.premises.most) ⊥
