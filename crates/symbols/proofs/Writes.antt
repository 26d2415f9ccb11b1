-- What is written into a list, which holds a row. Assumes nothing.
use Rattle.std.proofs.Common.{◌≡◌, ℕ, ◌+◌, ◌-◌, ◌≤◌, List, ◌++◌, length, get_or, take, drop, sym, ap, ◌∙◌, subst, arith}
use Rattle.std.proofs.lemmas.List.{get_or-append_right, get_or_append_left, get_or-take, get_or-drop, length-take-le, length-drop, take_all}
use Rattle.machine.specs.Window.{Written}
use Rattle.machine.proofs.Rows.{same_part}
use Rattle.symbols.specs.View.{in_row}
use Rattle.symbols.proofs.Placing.{take_part}

-- k that are written over
pub part_written : (xs ys : List ℕ) (a k : ℕ) → a + k ≤ length xs → length ys ≡ k → Written (in_row xs) (in_row (take a xs ++ (ys ++ drop k (drop a xs)))) ys a k
part_written xs ys a k l long =
    let front : List ℕ = take a xs in
    let rest : List ℕ = drop k (drop a xs) in
    let short : length front ≡ a = length-take-le a xs (omega arith) in
    record {
      wrote = λ j h. get_or-append_right front (ys ++ rest) a (a + j) 0 short (omega arith) ∙ ap (λ m. get_or (ys ++ rest) m 0) (omega arith) ∙ get_or_append_left ys rest 0 j (omega arith);
      below = λ j h. get_or_append_left front (ys ++ rest) 0 j (omega arith) ∙ get_or-take a xs j 0 h;
      above = λ j h.
          get_or-append_right front (ys ++ rest) a j 0 short (omega arith) ∙ get_or-append_right ys rest k (j - a) 0 long (omega arith) ∙ get_or-drop k (drop a xs) (j - a - k) 0
          ∙ get_or-drop a xs (k + (j - a - k)) 0 ∙ ap (λ m. get_or xs m 0) (omega arith);
    }

-- a part has as many places as were asked for
pub part_long : (xs : List ℕ) (a n : ℕ) → a + n ≤ length xs → length (take (a + n - a) (drop a xs)) ≡ n
part_long xs a n l = let all : a + n - a ≡ n = omega arith in length-take-le (a + n - a) (drop a xs) (omega (arith, length-drop a xs)) ∙ all

-- and it is written up to its end
pub filled : (xs ys vs : List ℕ) (a n : ℕ) → a + n ≤ length xs → length ys ≡ n → take n ys ≡ vs → Written (in_row xs) (in_row (take a xs ++ (ys ++ drop (a + n - a) (drop a xs)))) vs a n
filled xs ys vs a n l long e =
    let all : a + n - a ≡ n = omega arith in
    let are : ys ≡ vs = sym (take_all n ys (omega arith)) ∙ e in
    subst (λ m. Written (in_row xs) (in_row (take a xs ++ (ys ++ drop m (drop a xs)))) vs a n) (sym all)
    (subst (λ v. Written (in_row xs) (in_row (take a xs ++ (ys ++ drop n (drop a xs)))) v a n) are (part_written xs ys a n l long))

-- what stands in front of it stays
pub front_stays : (xs ys : List ℕ) (i : ℕ) {v : List ℕ} {at n : ℕ} → i ≤ length xs → length ys ≡ length xs → i ≤ at → Written (in_row xs) (in_row ys) v at n → take i ys ≡ take i xs
front_stays xs ys i within long l written =
    take_part ys i (omega arith) ∙ same_part (in_row ys) (in_row xs) 0 0 i (λ j h. written.below (0 + j) (omega arith)) ∙ sym (take_part xs i within)
