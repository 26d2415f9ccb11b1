-- Which bit is the lowest one of a word, from a bit on. Assumes nothing.
use Rattle.std.specs.Prelude.{◌≡◌, ℕ, suc, ◌+◌, ◌*◌, ◌/◌, ◌<◌, ◌≤◌, List, Some, None, Option}
use Rattle.rows.specs.Row.{bit_in}

-- the bits from k on, below j, are 0
abbrev pub Zeros : List ℕ → ℕ → ℕ → ℕ → Type 0
Zeros ws base k j = (x : ℕ) → k ≤ x → x < j → bit_in ws (64 * base + x) ≡ 0

pub record LowestOne (ws : List ℕ) (base k j : ℕ) : Type 0 where
  pub above : k ≤ j
  pub near : j / 64 ≡ k / 64
  pub one : bit_in ws (64 * base + j) ≡ 1
  pub zeros : Zeros ws base k j

abbrev pub Lowest : List ℕ → ℕ → ℕ → Option ℕ → Type 0
Lowest ws base k (Some j) = LowestOne ws base k j
Lowest ws base k None = Zeros ws base k (64 * suc (k / 64))
