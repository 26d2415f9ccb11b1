-- How the entries of a queue stand in words: one to a word, or three of 21 bits. Assumes nothing.
use Rattle.std.specs.Prelude.{ℕ, ◌*◌, ◌/◌, ◌%◌, ◌^◌, cond, List, nat_le, slice_index}
use Rattle.reach.specs.declared.layout.Layout.{Layout}
use Rattle.reach.specs.declared.layout.Layout.TheVariants.{Packed, Plain}

-- the 21 bits at place i of a word
abbrev pub slot : ℕ → ℕ → ℕ
slot w i = w / 2 ^ (21 * i) % 2097152

-- what stands at place k of a queue
abbrev pub entry_in : Layout → List ℕ → ℕ → ℕ
entry_in Packed ws k = slot (slice_index ws (k / 3)) (k % 3)
entry_in Plain ws k = slice_index ws k

-- how many entries so many words have room for
abbrev pub cap_of : Layout → ℕ → ℕ
cap_of Packed n = 3 * n
cap_of Plain n = n

-- an entry is below it
abbrev pub width_of : Layout → ℕ
width_of Packed = 2097152
width_of Plain = 2 ^ 62

abbrev pub layout_for : ℕ → Layout
layout_for n = cond (nat_le n 1048576) Packed Plain
