-- What a check answers that hands on a number, and what is measured in ways that the model does not name. Assumes nothing.
use Rattle.std.specs.Prelude.{◌≡◌, ℕ, ◌+◌, ◌<◌, Bool, true, false, ◌&&◌, List, length, Option, MatchOption, nat_le, nat_lt, slice_index}
use Rattle.model.specs.Parser.{Op, extract, assign, State}
use Rattle.model.specs.Refusal.{every, total, sum, parts_state}

-- the number where the test holds, none where it does not
abbrev pub Measured : Bool → ℕ → Option ℕ → Type 0
Measured t n r = MatchOption r (t ≡ false) (λ k. (t ≡ true) × (k ≡ n))

-- what is left of an allowance after n, none where n is more
abbrev pub Spent : ℕ → ℕ → Option ℕ → Type 0
Spent n left r = MatchOption r (left < n) (λ k. k + n ≡ left)

-- how many bits an op takes from the input
abbrev pub op_width : List ℕ → Op → ℕ
op_width ns (extract h) = slice_index ns h
op_width ns (assign h e) = 0

-- the limits of headers
abbrev pub headers_within : List ℕ → Bool
headers_within ns = (every (nat_lt 0) ns && nat_le (length ns) 64) && nat_le (sum ns) 4096

-- the limits of states, but for the depth of their expressions
abbrev pub states_within : List State → Bool
states_within qs = nat_le (length qs) 64 && nat_le (total parts_state qs) 16384
