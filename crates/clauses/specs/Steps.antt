-- What holds at the end of a step, and once lemmas were added. Assumes nothing.
use Rattle.std.specs.Prelude.{◌≡◌, ℕ, ◌-◌, ◌*◌, ◌≤◌, Bool, List, length, take, Result, Ok, Err, IsErrOf}
use Rattle.clauses.specs.Clauses.{All, clauses_at}
use Rattle.clauses.specs.Known.{Allows, Kept}
use Rattle.clauses.specs.Budget.{Spent}
use Rattle.clauses.specs.declared.known.Known.{Known as Knowledge}
use Rattle.clauses.specs.declared.lists.Lists.{Lists}
use Rattle.clauses.specs.declared.premises.Premises.{Premises}
use Rattle.clauses.specs.declared.stack.Stack.{Stack}
use Rattle.clauses.specs.declared.stop.Stop.{Stop}
use Rattle.clauses.specs.declared.stop.Stop.TheVariants.{Conflict, Refused, Exhausted}

-- the clauses that the premises are
abbrev pub clauses_of : Premises → List (List ℕ)
clauses_of p = clauses_at p.numbers.now p.starts.now

-- what is known of a valuation at the end of a step
abbrev pub After : Knowledge → (ℕ → Bool) → Result (Unit {0}) Stop → Type 0
After k v (Ok _) = Allows k v
After k v (Err Conflict) = ⊥
After k v (Err Refused) = Unit {0}
After k v (Err Exhausted) = Unit {0}

-- and of the premises, too
abbrev pub Both : Knowledge → (ℕ → Bool) → List (List ℕ) → Result (Unit {0}) Stop → Type 0
Both k v cs (Ok _) = Allows k v × All v cs
Both k v cs (Err Conflict) = ⊥
Both k v cs (Err Refused) = Unit {0}
Both k v cs (Err Exhausted) = Unit {0}

-- lists that were read on, in the same numbers
pub record ReadOn (lists lists' : Lists) : Type 0 where
  pub numbers : lists'.numbers ≡ lists.numbers
  pub ahead : lists.at ≤ lists'.at
  pub inside : lists'.at - lists.at ≤ length lists.numbers.now - lists.at

-- the clauses at the starts on a stack
abbrev pub stacked : List ℕ → Stack → List (List ℕ)
stacked numbers starts = clauses_at numbers (take starts.len starts.room.now)

-- premises so far, and what is known, grown by lemmas that were read from lists, with work that is left before and after
pub record Grown (most : ℕ) (lists : Lists) (starts : Stack) (known : Knowledge) (work : ℕ) (lists' : Lists) (starts' : Stack) (known' : Knowledge) (work' : ℕ) (r : Result (Unit {0}) Stop) : Type 0 where
  -- the trail undoes it
  pub kept : Kept known known'
  -- nothing is lost: what is allowed and satisfies the premises still does, or there is no such valuation
  pub after : (v : ℕ → Bool) → Allows known v → All v (stacked lists.numbers.now starts) → Both known' v (stacked lists.numbers.now starts') r
  -- the premises at entry stay where they are, in the same lent room
  pub front : take starts.len starts'.room.now ≡ take starts.len starts.room.now
  pub grows : starts.len ≤ starts'.len
  pub room : starts'.room.ghost_name ≡ starts.room.ghost_name
  pub long : length starts'.room.now ≡ length starts.room.now
  pub read : ReadOn lists lists'
  pub spent : Spent work work' ((lists'.at - lists.at) * most) (IsErrOf r Exhausted)
