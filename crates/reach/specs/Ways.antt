-- The way to a bad entry, and the message that it spells. Assumes nothing.
use Rattle.std.specs.Prelude.{◌≡◌, ℕ, zero, suc, ◌+◌, ◌-◌, ◌%◌, ◌<◌, ◌≤◌, Bool, true, cond, List, [], ◌∷◌, Ok, Err, Result, slice_index}
use Rattle.budget.specs.declared.Exhausted.{Exhausted}
use Rattle.model.specs.Parser.{Bits}
use Rattle.rows.specs.Row.{row_in}
use Rattle.reach.specs.Model.{Model, follow}
use Rattle.reach.specs.Ended.{sets_words}
use Rattle.reach.specs.Tables.{path, entry}
use Rattle.reach.specs.Held.{Begins, conf}
use Rattle.reach.specs.Phases.{Within, Short}
use Rattle.reach.specs.declared.tables.Tables.{Tables}

-- the bits of the entries on the way, among n entries from k on
unfoldable pub spelled : (ℕ → ℕ) → (ℕ → Bool) → ℕ → ℕ → Bits
spelled e on k zero = []
spelled e on k (suc n) = cond (on k) (e k % 2 ∷ spelled e on (suc k) n) (spelled e on (suc k) n)

-- the bits of the entries on the way after `root`, up to the last one
abbrev pub way_bits : Tables → ℕ → ℕ → Bits
way_bits t root last = spelled (entry t) (path t) (suc root) (last - root)

-- from the entry `root`, a start, the entries on the way lead to the last one, which is bad
pub record WayFrom (m : Model) (t : Tables) (last root : ℕ) : Type 0 where
  pub below : root ≤ last
  pub inside : last < t.count
  pub begins : Begins m (conf (entry t) root)
  pub ends : m.bad (follow m.next (conf (entry t) root) (way_bits t root last)) ≡ true
  pub top : path t last ≡ true

abbrev pub Traced : Model → ℕ → ℕ → Tables → ℕ → Result ℕ Exhausted → Type 0
Traced m work left t last (Ok root) = WayFrom m t last root × (t.count ≡ m.count) × Within work left m.count
Traced m work left t last (Err e) = Short work left m.count

-- the message stands in these words
pub record SpeltOut (t : Tables) (work left root last : ℕ) (message : List ℕ) : Type 0 where
  pub row : row_in message 0 ≡ way_bits t root last
  pub few : slice_index message 0 ≤ last
  pub within : Within work left (last + sets_words t.count)

abbrev pub Spelt : ℕ → ℕ → Tables → ℕ → ℕ → List ℕ → Result (Unit {0}) Exhausted → Type 0
Spelt work left t root last message (Ok u) = SpeltOut t work left root last message
Spelt work left t root last message (Err e) = Short work left (last + sets_words t.count)
