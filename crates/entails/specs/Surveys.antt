-- What a survey of premises and goal says. Assumes nothing.
use Rattle.std.specs.Prelude.{◌≡◌, ℕ, List, Result, Ok, Err}
use Rattle.clauses.specs.Clauses.{Stands}
use Rattle.entails.specs.Layouts.{Beyond, Laid, SomeBeyond}
use Rattle.entails.specs.declared.Question.{Question}
use Rattle.entails.specs.declared.survey.Unfit.{Unfit}
use Rattle.entails.specs.declared.survey.Unfit.TheVariants.{Malformed, Wide, Worn}

-- what was found of the clause at s
abbrev pub Scanned : List ℕ → ℕ → ℕ → ℕ → Result (Unit {0}) Unfit → Type 0
Scanned numbers s n left (Ok _) = Stands numbers s
Scanned numbers s n left (Err Malformed) = Stands numbers s → ⊥
Scanned numbers s n left (Err Wide) = Stands numbers s × Beyond numbers n s
Scanned numbers s n left (Err Worn) = left ≡ 0

-- and of all
abbrev pub Surveyed : Question → ℕ → ℕ → Result (Unit {0}) Unfit → Type 0
Surveyed q n left (Ok _) = Laid q.numbers.now q.used q.starts.now q.count q.goal
Surveyed q n left (Err Malformed) = Laid q.numbers.now q.used q.starts.now q.count q.goal → ⊥
Surveyed q n left (Err Wide) = SomeBeyond q.numbers.now q.starts.now q.count q.goal n
Surveyed q n left (Err Worn) = left ≡ 0
