use Rattle.std.proofs.Common.{ℕ, ◌<◌, ◌≤◌, get_or}
use Rattle.clauses.specs.Clauses.{Stands}
use Rattle.entails.proofs.survey.survey.Given as goal

abbrev pub invariant-loop-s : goal.invariant-loop-s
invariant-loop-s l = ((k : ℕ) → k < l.s-index → Stands l.numbers (get_or l.starts k 0)) × (l.work.left ≤ l.fn.work.left)
