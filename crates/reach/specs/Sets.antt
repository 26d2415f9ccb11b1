-- Sets of numbers, a bit each. Assumes nothing.
use Rattle.std.specs.Prelude.{ℕ, zero, suc, ◌+◌, Bool, cond, List, ◌==◌}
use Rattle.rows.specs.Row.{bit_in}

-- the set that stands in these words
abbrev pub member : List ℕ → ℕ → Bool
member ws k = bit_in ws k == 1

abbrev pub lack : Bool → ℕ
lack b = cond b 0 1

-- how many numbers below n the set leaves out
unfoldable pub blanks : (ℕ → Bool) → ℕ → ℕ
blanks f zero = 0
blanks f (suc n) = lack (f n) + blanks f n
