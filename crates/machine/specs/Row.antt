-- Parts of a row, which is a function from places, and headers that lie in it one after the other. Assumes nothing.
use Rattle.std.specs.Prelude.{ℕ, zero, suc, ◌+◌, List, [], ◌∷◌}
use Rattle.model.specs.Parser.{Bits, Store}
pub use Rattle.rows.specs.Row.{bit_in}

-- n of a row, from place k on
abbrev pub part : (ℕ → ℕ) → ℕ → ℕ → Bits
part f k zero = []
part f k (suc n) = f k ∷ part f (suc k) n

-- headers of these sizes, one after the other, from place k on
abbrev pub headers : (ℕ → ℕ) → ℕ → List ℕ → Store
headers f k [] = []
headers f k (n ∷ ns) = part f k n ∷ headers f (k + n) ns
