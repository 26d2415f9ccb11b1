-- What a search for an answer leaves, whatever it finds. Assumes nothing.
use Rattle.std.specs.Prelude.{◌≡◌, ℕ, ◌≤◌, List, length}
use Rattle.clauses.specs.Clauses.{clause_at, premises}
use Rattle.entails.specs.Layouts.{Front, Same}
use Rattle.entails.specs.declared.Lack.{Lack}
use Rattle.entails.specs.declared.Lack.TheVariants.{Work, Numbers, Starts, Value, Trail, Reason}
use Rattle.entails.specs.declared.search.Search.{Search}

-- the premises, and the goal
abbrev pub asked : Search → List (List ℕ)
asked s = premises s.numbers.now s.starts.now s.given

abbrev pub wanted : Search → List ℕ
wanted s = clause_at s.numbers.now s.goal

-- what it ran short of
abbrev pub ShortOf : Search → ℕ → Lack → Type 0
ShortOf s left Work = left ≡ 0
ShortOf s left Numbers = s.used ≡ length s.numbers.now
ShortOf s left Starts = s.count ≡ length s.starts.now
ShortOf s left Value = ⊥
ShortOf s left Trail = ⊥
ShortOf s left Reason = ⊥

-- numbers and starts were written behind what stood, for the same question
pub record Learned (s s' : Search) : Type 0 where
  pub numbers : Same s.numbers s'.numbers
  pub front : Front s.used s.numbers.now s'.numbers.now
  pub ahead : s.used ≤ s'.used
  pub starts : Same s.starts s'.starts
  pub places : Front s.count s.starts.now s'.starts.now
  pub grows : s.count ≤ s'.count
  pub at : s'.at ≡ s.at
  pub given : s'.given ≡ s.given
  pub goal : s'.goal ≡ s.goal

-- only starts of lemmas were written
pub record Checked (s s' : Search) : Type 0 where
  pub numbers : s'.numbers ≡ s.numbers
  pub used : s'.used ≡ s.used
  pub starts : Same s.starts s'.starts
  pub places : Front s.given s.starts.now s'.starts.now
  pub count : s'.count ≡ s.count
  pub at : s'.at ≡ s.at
  pub given : s'.given ≡ s.given
  pub goal : s'.goal ≡ s.goal
