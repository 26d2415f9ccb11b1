use Rattle.std.proofs.Common.{ℕ, ◌≤◌, List}
use Rattle.clauses.specs.Known.{Trailed}
use Rattle.clauses.proofs.trail.undo.Given as goal

abbrev pub invariant-loop-d : goal.invariant-loop-d
invariant-loop-d l =
    (l.base ≤ l.depth → l.base ≤ l.d)
    × ((before : List ℕ) (b : ℕ) → b ≤ l.base → l.base ≤ l.depth → Trailed before l.initial.value l.trail b l.depth → Trailed before l.value l.trail b l.d)
