-- The symbols of headers in a row. Assumes nothing.
use Rattle.std.specs.Prelude.{ℕ, List, slice_index}
use Rattle.model.specs.Parser.{Store}
use Rattle.model.specs.Refusal.{sum}
use Rattle.machine.specs.View.{sizes_in}
use Rattle.machine.specs.declared.machine.Machine.{Machine}
use Rattle.machine.specs.Row.{headers}

-- the row that a list holds
abbrev pub in_row : List ℕ → ℕ → ℕ
in_row xs j = slice_index xs j

abbrev pub symbols_in : Machine → List ℕ → Store
symbols_in m xs = headers (in_row xs) 0 (sizes_in m)

-- how many bits all headers have
abbrev pub header_bits : Machine → ℕ
header_bits m = sum (sizes_in m)
