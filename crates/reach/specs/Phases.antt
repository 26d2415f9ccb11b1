-- What the halves of a sweep leave: the starts in the queue, then all that they lead to, or a bad entry. Assumes nothing.
use Rattle.std.specs.Prelude.{◌≡◌, ℕ, ◌+◌, ◌*◌, ◌<◌, ◌≤◌, true, Some, None, Option, Ok, Err, Result}
use Rattle.budget.specs.declared.Exhausted.{Exhausted}
use Rattle.reach.specs.Model.{Model, Safe}
use Rattle.reach.specs.Tables.{seen, odd_in, entry, Unmarked}
use Rattle.reach.specs.Held.{Held, Swept, conf}
use Rattle.reach.specs.declared.tables.Tables.{Tables}

-- at most `most` was spent
abbrev pub Within : ℕ → ℕ → ℕ → Type 0
Within work left most = (left ≤ work) × (work ≤ left + most)

-- the work was less than `most`, and is used up
abbrev pub Short : ℕ → ℕ → ℕ → Type 0
Short work left most = (left ≡ 0) × (work < most)

-- between two turns: the first `begun` starts are in the queue, and `done` turns were taken from it
pub record Going (m : Model) (t : Tables) (roots begun done : ℕ) : Type 0 where
  pub size : t.count ≡ m.count
  pub held : Held m (seen t) (odd_in t) (entry t) roots t.tail
  pub swept : Swept m (seen t) (entry t) t.tail begun done
  pub unmarked : Unmarked t

-- the last entry is bad
pub record Caught (m : Model) (t : Tables) (roots last : ℕ) : Type 0 where
  pub size : t.count ≡ m.count
  pub tail : t.tail ≡ last + 1
  pub held : Held m (seen t) (odd_in t) (entry t) roots t.tail
  pub wrong : m.bad (conf (entry t) last) ≡ true
  pub unmarked : Unmarked t

abbrev pub Seeded : Model → ℕ → ℕ → Tables → Result (Option ℕ) Exhausted → Type 0
Seeded m work left t (Ok None) = Going m t t.tail m.starts 0 × Within work left m.count
Seeded m work left t (Ok (Some last)) = Caught m t t.tail last × Within work left m.count
Seeded m work left t (Err e) = Short work left m.count

abbrev pub Explored : Model → ℕ → ℕ → ℕ → Tables → Result (Option ℕ) Exhausted → Type 0
Explored m work left roots t (Ok None) = Safe m × Within work left (2 * m.count)
Explored m work left roots t (Ok (Some last)) = Caught m t roots last × Within work left (2 * m.count)
Explored m work left roots t (Err e) = Short work left (2 * m.count)
