-- How premises and a goal stand in lent numbers. Assumes nothing.
use Rattle.std.specs.Prelude.{◌≡◌, ℕ, ◌+◌, ◌/◌, ◌<◌, ◌≤◌, ◌⊎◌, List, length, slice_index}
use Rattle.std.specs.Borrow.{MutBor}

-- the first n are the same
abbrev pub Front : ℕ → List ℕ → List ℕ → Type 0
Front n xs ys = (k : ℕ) → k < n → slice_index ys k ≡ slice_index xs k

-- the clause at s stands below the limit
abbrev pub Below : List ℕ → ℕ → ℕ → Type 0
Below numbers limit s = s + slice_index numbers s < limit

-- premises and goal stand below `used`
pub record Laid (numbers : List ℕ) (used : ℕ) (starts : List ℕ) (count goal : ℕ) : Type 0 where
  pub low : used ≤ length numbers
  pub room : count ≤ length starts
  pub each : (c : ℕ) → c < count → Below numbers used (slice_index starts c)
  pub last : Below numbers used goal

-- a literal of the clause at s is of none of the first n positions
abbrev pub Beyond : List ℕ → ℕ → ℕ → Type 0
Beyond numbers n s = (k : ℕ) × (k < slice_index numbers s) × (n ≤ slice_index numbers (s + 1 + k) / 2)

abbrev pub SomeBeyond : List ℕ → List ℕ → ℕ → ℕ → ℕ → Type 0
SomeBeyond numbers starts count goal n = ((c : ℕ) × (c < count) × Beyond numbers n (slice_index starts c)) ⊎ Beyond numbers n goal

-- the same lent room
abbrev pub Same : MutBor (List ℕ) → MutBor (List ℕ) → Type 0
Same room room' = (room'.ghost_name ≡ room.ghost_name) × (length room'.now ≡ length room.now)
