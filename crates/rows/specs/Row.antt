-- How rows of bits and headers' contents stand in lent numbers of 64 bits. Assumes nothing.
use Rattle.std.specs.Prelude.{ℕ, zero, suc, ◌+◌, ◌/◌, ◌%◌, ◌^◌, List, [], ◌∷◌, drop, slice_index}
use Rattle.model.specs.Parser.{Bits, Store}

-- bit k of numbers of 64 bits, the lowest first
abbrev pub bit_in : List ℕ → ℕ → ℕ
bit_in ws k = slice_index ws (k / 64) / 2 ^ (k % 64) % 2

-- n bits, from bit k on
abbrev pub bits_in : List ℕ → ℕ → ℕ → Bits
bits_in ws k zero = []
bits_in ws k (suc n) = bit_in ws k ∷ bits_in ws (suc k) n

-- a row of bits stands in the room as how many there are, and then these, 64 to a number
abbrev pub row_in : List ℕ → ℕ → Bits
row_in room at = bits_in (drop (suc at) room) 0 (slice_index room at)

-- where the next thing stands
abbrev pub row_end : List ℕ → ℕ → ℕ
row_end room at = suc at + (slice_index room at + 63) / 64

-- so many rows, one after the other, and where the next thing stands
abbrev pub rows_in : List ℕ → ℕ → ℕ → Store
rows_in room zero at = []
rows_in room (suc n) at = row_in room at ∷ rows_in room n (row_end room at)

abbrev pub rows_end : List ℕ → ℕ → ℕ → ℕ
rows_end room zero at = at
rows_end room (suc n) at = rows_end room n (row_end room at)

-- headers' contents stand in the room as how many headers there are, and then a row for each
abbrev pub store_in : List ℕ → ℕ → Store
store_in room at = rows_in room (slice_index room at) (suc at)

abbrev pub store_end : List ℕ → ℕ → ℕ
store_end room at = rows_end room (slice_index room at) (suc at)
