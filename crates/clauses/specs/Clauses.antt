-- Clauses over bits, as they stand in lent numbers, and what follows from them. Assumes nothing.
use Rattle.std.specs.Prelude.{◌≡◌, ℕ, ◌+◌, ◌/◌, ◌%◌, ◌<◌, Bool, true, false, List, [], map, length, take, drop, slice_index, slice_index_or}

unfoldable pub bit : Bool → ℕ
bit true = 1
bit false = 0

-- a literal is 2 * position, + 1 if negated
abbrev pub Holds : (ℕ → Bool) → ℕ → Type 0
Holds v l = bit (v (l / 2)) + l % 2 ≡ 1

-- one of the literals holds
abbrev pub Sat : (ℕ → Bool) → List ℕ → Type 0
Sat v ls = (k : ℕ) × (k < length ls) × Holds v (slice_index ls k)

-- each of the clauses is satisfied
abbrev pub All : (ℕ → Bool) → List (List ℕ) → Type 0
All v cs = (k : ℕ) → k < length cs → Sat v (slice_index_or cs k [])

abbrev pub Follows : List (List ℕ) → List ℕ → Type 0
Follows cs ls = (v : ℕ → Bool) → All v cs → Sat v ls

-- n numbers from index a on
unfoldable pub part : List ℕ → ℕ → ℕ → List ℕ
part numbers a n = take n (drop a numbers)

-- a length at s, and all that it counts, stand in the numbers
abbrev pub Stands : List ℕ → ℕ → Type 0
Stands numbers s = s + slice_index numbers s < length numbers

-- the clause at s: a length, then literals
abbrev pub clause_at : List ℕ → ℕ → List ℕ
clause_at numbers s = part numbers (s + 1) (slice_index numbers s)

-- the clauses at the indices in a list
unfoldable pub clauses_at : List ℕ → List ℕ → List (List ℕ)
clauses_at numbers starts = map (clause_at numbers) starts

-- the first `count` of them
abbrev pub premises : List ℕ → List ℕ → ℕ → List (List ℕ)
premises numbers starts count = clauses_at numbers (take count starts)
