-- What is used of a row, and what is written into one that is a function from places. Assumes nothing.
use Rattle.std.specs.Prelude.{◌≡◌, ℕ, ◌+◌, ◌<◌, ◌≤◌, List, length, take, drop, slice_index}
use Rattle.model.specs.Parser.{Bits}

-- what follows the first k bits, n bits at most
abbrev pub window : Bits → ℕ → ℕ → Bits
window v k n = take n (drop k v)

-- the first i of xs are written from place k on: f was the row before, and g is it now
pub record Written (f g : ℕ → ℕ) (xs : List ℕ) (k i : ℕ) : Type 0 where
  pub wrote : (j : ℕ) → j < i → g (k + j) ≡ slice_index xs j
  pub below : (j : ℕ) → j < k → g j ≡ f j
  pub above : (j : ℕ) → k + i ≤ j → g j ≡ f j

-- all of xs are, from place `at` on, and what comes next is written from `to` on
pub record Wrote (f g : ℕ → ℕ) (at to : ℕ) (xs : List ℕ) : Type 0 where
  pub on : to ≡ at + length xs
  pub wrote : Written f g xs at (length xs)
