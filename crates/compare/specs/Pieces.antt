-- Header contents of at most 63 bits in one number, cut by their sizes, and how they are laid into the room. Assumes nothing.
use Rattle.std.specs.Prelude.{◌≡◌, ℕ, zero, suc, ◌+◌, ◌*◌, ◌/◌, ◌%◌, ◌^◌, ◌<◌, ◌≤◌, ◌⊎◌, List, [], ◌∷◌, length, slice_index, slice_index_or}

-- each header has a bit, and fits a number of 64
abbrev pub Narrow : List ℕ → Type 0
Narrow ns = (j : ℕ) → j < length ns → (0 < slice_index ns j) × (slice_index ns j < 64)

-- what is left of the number above the first j headers
abbrev pub above : List ℕ → ℕ → ℕ → ℕ
above [] j x = x
above (n ∷ ns) zero x = x
above (n ∷ ns) (suc j) x = above ns j (x / 2 ^ n)

-- the first i headers stand in the room from `at` on: of each its size, and its bits as a number
pub record Stand (ns room : List ℕ) (at x i : ℕ) : Type 0 where
  pub sizes : (j : ℕ) → j < i → slice_index room (at + 2 * j) ≡ slice_index ns j
  pub bits : (j : ℕ) → j < i → slice_index room (suc (at + 2 * j)) ≡ above ns j x % 2 ^ slice_index ns j

-- how many numbers headers take
abbrev pub store_words : List ℕ → ℕ
store_words ns = 1 + 2 * length ns

-- outside of where headers stand nothing is changed
abbrev pub Outside : List ℕ → ℕ → List ℕ → List ℕ → Type 0
Outside ns at before after = (k : ℕ) → (k < at) ⊎ (at + store_words ns ≤ k) → slice_index after k ≡ slice_index before k

-- the first i headers are written, and `rest` are the bits of those that follow
pub record Laid (ns before room : List ℕ) (at x i rest : ℕ) : Type 0 where
  pub left : rest ≡ above ns i x
  pub counted : slice_index_or room at 0 ≡ length ns
  pub stand : Stand ns room (at + 1) x i
  pub others : Outside ns at before room
