-- Windows of rows of bits: of two joined, of a part, of a header. Assumes nothing.
use Rattle.std.proofs.Common.{◌≡◌, ℕ, zero, suc, ◌+◌, ◌-◌, ◌<◌, ◌≤◌, min, List, [], ◌∷◌, ◌++◌, length, get_or, take, drop, sym, refl, ap, ◌∙◌, arith}
use Rattle.std.proofs.lemmas.List.{length-take, length-drop, length-take-le, get_or-take, get_or-drop, ext_get_or, drop-drop, drop-take, take-take}
use Rattle.machine.specs.Row.{part}
use Rattle.machine.specs.Window.{window}
use Rattle.machine.proofs.Rows.{length_part, part_at}

pub length-window : (v : List ℕ) (k n : ℕ) → length (window v k n) ≡ min n (length v - k)
length-window v k n = length-take n (drop k v) ∙ ap (min n) (length-drop k v)

drop-append : (k : ℕ) (a b : List ℕ) → drop k (a ++ b) ≡ drop k a ++ drop (k - length a) b
drop-append zero a b = let e : 0 ≡ 0 - length a = omega arith in ap (λ j. a ++ drop j b) e
drop-append (suc k) [] b = let e : suc k ≡ suc k - 0 = omega arith in ap (λ j. drop j b) e
drop-append (suc k) (x ∷ a) b = let e : k - length a ≡ suc k - suc (length a) = omega arith in drop-append k a b ∙ ap (λ j. drop k a ++ drop j b) e

take-append : (n : ℕ) (a b : List ℕ) → take n (a ++ b) ≡ take n a ++ take (n - length a) b
take-append zero a b = let e : 0 ≡ 0 - length a = omega arith in ap (λ j. take j b) e
take-append (suc n) [] b = let e : suc n ≡ suc n - 0 = omega arith in ap (λ j. take j b) e
take-append (suc n) (x ∷ a) b =
    let e : n - length a ≡ suc n - suc (length a) = omega arith in
    ap (λ xs. x ∷ xs) (take-append n a b ∙ ap (λ j. take n a ++ take j b) e)

-- of two rows joined, m of the first being used
pub window_join : (a b : List ℕ) (k n m : ℕ) → m ≡ length (window a k n) → window (a ++ b) k n ≡ window a k n ++ window b (k - length a) (n - m)
window_join a b k n m used =
    ap (take n) (drop-append k a b) ∙ take-append n (drop k a) (drop (k - length a) b)
    ∙ ap (λ j. window a k n ++ take j (drop (k - length a) b)) (omega (arith, length-take n (drop k a)))

-- f bits of a row are passed over and the next n used
module _ (v : List ℕ) (k most : ℕ) {size f n : ℕ} (long : length v ≡ size) (f_is : f ≡ min k size) (n_is : n ≡ min most (size - f)) where
  pub inside : f + n ≤ size
  inside = omega arith

  pub left_over : k - f ≡ k - length v
  left_over = omega arith

  pub used : n ≡ length (window v k most)
  used = omega (arith, length-window v k most)

  pub window_is : window v k most ≡ take n (drop f v)
  window_is =
      ext_get_or 0 (window v k most) (take n (drop f v)) (sym used ∙ sym (length-take-le n (drop f v) (omega (arith, length-drop f v))))
      (λ i l.
      let short : i < n = omega (arith, used) in
      get_or-take most (drop k v) i 0 (omega arith) ∙ get_or-drop k v i 0 ∙ ap (λ j. get_or v j 0) (omega arith) ∙ sym (get_or-take n (drop f v) i 0 short ∙ get_or-drop f v i 0))

pub window-part : (f : ℕ → ℕ) (s size i n : ℕ) → i + n ≤ size → take n (drop i (part f s size)) ≡ part f (s + i) n
window-part f s size i n l =
    let v : List ℕ = part f s size in
    let long : length (take n (drop i v)) ≡ n = length-take-le n (drop i v) (omega (arith, length-drop i v, length_part f s size)) in
    ext_get_or 0 (take n (drop i v)) (part f (s + i) n) (long ∙ sym (length_part f (s + i) n))
    (λ j h.
    let short : j < n = omega arith in
    get_or-take n (drop i v) j 0 short ∙ get_or-drop i v j 0 ∙ part_at f s size (i + j) (omega arith) ∙ ap f (omega arith) ∙ sym (part_at f (s + i) n j short))

pub window_slice : (v : List ℕ) (lo hi f n : ℕ) → f + n ≤ suc hi - lo → take n (drop f (drop lo (take (suc hi) v))) ≡ window v (lo + f) n
window_slice v lo hi f zero l = refl
window_slice v lo hi f (suc n) l =
    let d : ℕ = lo + f in
    let r : ℕ = suc hi - d in
    let e : suc hi ≡ d + r = omega arith in
    ap (take (suc n)) (drop-drop f lo (take (suc hi) v)) ∙ ap (λ k. take (suc n) (drop d (take k v))) e ∙ ap (take (suc n)) (drop-take d r v) ∙ take-take (suc n) r (drop d v) (omega arith)
