-- A list in lent numbers, number by number.
use Rattle.std.proofs.Common.{◌≡◌, ℕ, ◌+◌, ◌<◌, ◌≤◌, List, length, get_or, drop, ◌∙◌, arith, length-drop}
use Rattle.std.proofs.lemmas.List.{length-take-le, get_or-take, get_or-drop}
use Rattle.clauses.specs.Clauses.{part}

pub length_part : (numbers : List ℕ) (a n : ℕ) → a + n ≤ length numbers → length (part numbers a n) ≡ n
unfolding part
length_part numbers a n h = length-take-le n (drop a numbers) (omega (arith, length-drop a numbers))

pub get_or-part : (numbers : List ℕ) (a n k : ℕ) → k < n → get_or (part numbers a n) k 0 ≡ get_or numbers (a + k) 0
unfolding part
get_or-part numbers a n k h = get_or-take n (drop a numbers) k 0 h ∙ get_or-drop a numbers k 0
