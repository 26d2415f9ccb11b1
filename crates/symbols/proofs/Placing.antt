-- Headers in a row: what stands where, and rows that stand for others. Assumes nothing.
use Rattle.std.proofs.Common.{◌≡◌, ℕ, zero, suc, ◌+◌, ◌<◌, ◌≤◌, List, [], ◌∷◌, ◌++◌, map, length, take, drop, sym, refl, ap, ◌∙◌, ap₂, arith}
use Rattle.std.proofs.lemmas.List.{ext_get_or, get_or-take, get_or-drop, length-take-le, length-drop}
use Rattle.model.specs.Refusal.{sum}
use Rattle.machine.specs.Row.{part, headers}
use Rattle.machine.proofs.Rows.{length_part, part_at}
use Rattle.symbols.specs.View.{in_row}

-- a part of a list, and its front
pub list_part : (xs : List ℕ) (k n : ℕ) → k + n ≤ length xs → take n (drop k xs) ≡ part (in_row xs) k n
list_part xs k n l =
    let long : length (take n (drop k xs)) ≡ n = length-take-le n (drop k xs) (omega (arith, length-drop k xs)) in
    ext_get_or 0 (take n (drop k xs)) (part (in_row xs) k n) (long ∙ sym (length_part (in_row xs) k n))
    (λ i h. let short : i < n = omega arith in get_or-take n (drop k xs) i 0 short ∙ get_or-drop k xs i 0 ∙ sym (part_at (in_row xs) k n i short))

-- one place more
pub part_more : (f : ℕ → ℕ) (k i : ℕ) → part f k i ++ f (k + i) ∷ [] ≡ part f k (i + 1)
part_more f k zero = ap (λ j. f j ∷ []) (omega arith)
part_more f k (suc i) =
    let more : suc (i + 1) ≡ suc i + 1 = omega arith in
    let on : k + suc i ≡ suc k + i = omega arith in
    ap (λ xs. f k ∷ xs) (ap (λ j. part f (suc k) i ++ f j ∷ []) on ∙ part_more f (suc k) i) ∙ ap (part f k) more

pub take_part : (xs : List ℕ) (n : ℕ) → n ≤ length xs → take n xs ≡ part (in_row xs) 0 n
take_part xs n l = list_part xs 0 n (omega arith)

pub map-part : (g f h : ℕ → ℕ) (k m n : ℕ) → ((i : ℕ) → i < n → g (f (k + i)) ≡ h (m + i)) → map g (part f k n) ≡ part h m n
map-part g f h k m zero e = refl
map-part g f h k m (suc n) e =
    ap₂ ◌∷◌ (ap (λ x. g (f x)) (omega arith) ∙ e 0 (omega arith) ∙ ap h (omega arith))
    (map-part g f h (suc k) (suc m) n (λ i l. ap (λ x. g (f x)) (omega arith) ∙ e (suc i) (omega arith) ∙ ap h (omega arith)))

pub map-headers : (g f h : ℕ → ℕ) (k m : ℕ) (ns : List ℕ) → ((i : ℕ) → i < sum ns → g (f (k + i)) ≡ h (m + i)) → map (map g) (headers f k ns) ≡ headers h m ns
map-headers g f h k m [] e = refl
map-headers g f h k m (n ∷ ns) e =
    ap₂ ◌∷◌ (map-part g f h k m n (λ i l. e i (omega arith)))
    (map-headers g f h (k + n) (m + n) ns (λ i l. ap (λ x. g (f x)) (omega arith) ∙ e (n + i) (omega arith) ∙ ap h (omega arith)))
