-- What an answer says. Assumes nothing.
use Rattle.std.specs.Prelude.{◌≡◌, ℕ, ◌-◌, ◌<◌, ◌≤◌, Bool, List, length, ◌==◌, slice_index, Result, Ok, Err}
use Rattle.clauses.specs.Clauses.{Sat, All, Follows, clause_at, premises}
use Rattle.entails.specs.Layouts.{Front, Laid, Same, SomeBeyond}
use Rattle.entails.specs.declared.Lack.{Lack}
use Rattle.entails.specs.declared.Lack.TheVariants.{Work, Numbers, Starts, Value, Trail, Reason}
use Rattle.entails.specs.declared.Outcome.{Outcome}
use Rattle.entails.specs.declared.Outcome.TheVariants.{Yes, No, Exhausted, Malformed}
use Rattle.entails.specs.declared.Question.{Question}
use Rattle.entails.specs.declared.Room.{Room}
use Rattle.entails.specs.declared.Answer.{Answer}
use Rattle.entails.specs.declared.hunt.Found.{Found}
use Rattle.entails.specs.declared.hunt.Found.TheVariants.{Shown, Model}

-- the valuation that a list of bits says: what is unknown counts as 0
unfoldable pub says : List ℕ → ℕ → Bool
says value p = slice_index value p == 1

-- a valuation that satisfies the clauses and not the goal
abbrev pub Refuted : List (List ℕ) → List ℕ → (ℕ → Bool) → Type 0
Refuted cs ls v = All v cs × (Sat v ls → ⊥)

-- what there was too little of
abbrev pub Lacks : List ℕ → List ℕ → ℕ → ℕ → List ℕ → List ℕ → List ℕ → ℕ → ℕ → ℕ → Lack → Type 0
Lacks numbers starts count goal value trail reason used' count' left Work = left ≡ 0
Lacks numbers starts count goal value trail reason used' count' left Numbers = used' ≡ length numbers
Lacks numbers starts count goal value trail reason used' count' left Starts = count' ≡ length starts
Lacks numbers starts count goal value trail reason used' count' left Value = SomeBeyond numbers starts count goal (length value)
Lacks numbers starts count goal value trail reason used' count' left Trail = length trail < length value
Lacks numbers starts count goal value trail reason used' count' left Reason = length reason < length value

-- what an outcome says
abbrev pub Answered : List ℕ → ℕ → List ℕ → ℕ → ℕ → List ℕ → List ℕ → List ℕ → List ℕ → ℕ → ℕ → ℕ → Outcome → Type 0
Answered numbers used starts count goal value trail reason value' used' count' left Yes = Follows (premises numbers starts count) (clause_at numbers goal)
Answered numbers used starts count goal value trail reason value' used' count' left No = Refuted (premises numbers starts count) (clause_at numbers goal) (says value')
Answered numbers used starts count goal value trail reason value' used' count' left (Exhausted lack) = Lacks numbers starts count goal value trail reason used' count' left lack
Answered numbers used starts count goal value trail reason value' used' count' left Malformed = Laid numbers used starts count goal → ⊥

-- what a search says
abbrev pub outcome_of : Result Found Lack → Outcome
outcome_of (Ok Shown) = Yes
outcome_of (Ok Model) = No
outcome_of (Err lack) = Exhausted lack

-- a question that is still the same, in the same lent room
pub record SameQuestion (q q' : Question) : Type 0 where
  pub numbers : Same q.numbers q'.numbers
  pub used : q'.used ≡ q.used
  pub starts : Same q.starts q'.starts
  pub count : q'.count ≡ q.count
  pub goal : q'.goal ≡ q.goal

-- the same lent room
pub record SameRoom (r r' : Room) : Type 0 where
  pub value : Same r.value r'.value
  pub trail : Same r.trail r'.trail
  pub reason : Same r.reason r'.reason

-- an answer, with what the question and the room hold then
pub record Right (q : Question) (lent : Room) (work : ℕ) (q' : Question) (lent' : Room) (r : Answer) : Type 0 where
  pub right : Answered q.numbers.now q.used q.starts.now q.count q.goal lent.value.now lent.trail.now lent.reason.now lent'.value.now r.used r.count r.left r.outcome
  -- premises and goal are unchanged, and so is where they stand
  pub same : SameQuestion q q'
  pub back : SameRoom lent lent'
  pub front : Front q.used q.numbers.now q'.numbers.now
  pub places : Front q.count q.starts.now q'.starts.now
  -- lemmas stand from `used` to here, within the numbers
  pub ahead : q.used ≤ r.used
  pub inside : r.used - q.used ≤ length q.numbers.now - q.used
  pub grows : q.count ≤ r.count
  pub room : r.count - q.count ≤ length q.starts.now - q.count
  pub less : r.left ≤ work
