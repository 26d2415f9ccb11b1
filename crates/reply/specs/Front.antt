-- What stands at the front of a part of the room. Assumes nothing.
use Rattle.std.specs.Prelude.{ℕ, zero, suc, List, [], ◌∷◌, drop, slice_index}
use Rattle.model.specs.Parser.{Bits, Store}
use Rattle.rows.specs.Row.{bits_in, row_in, row_end}
use Rattle.reply.specs.declared.row.Row.{Row}

-- the bits of a row
abbrev pub row_of : Row → Bits
row_of r = bits_in r.words.now 0 r.len

abbrev pub front_row : List ℕ → Bits
front_row part = row_in part 0

-- what comes after that row
abbrev pub past_row : List ℕ → List ℕ
past_row part = drop (row_end part 0) part

abbrev pub front_rows : ℕ → List ℕ → Store
front_rows zero part = []
front_rows (suc n) part = front_row part ∷ front_rows n (past_row part)

abbrev pub past_rows : ℕ → List ℕ → List ℕ
past_rows zero part = part
past_rows (suc n) part = past_rows n (past_row part)

abbrev pub front_store : List ℕ → Store
front_store part = front_rows (slice_index part 0) (drop 1 part)

abbrev pub past_store : List ℕ → List ℕ
past_store part = past_rows (slice_index part 0) (drop 1 part)
