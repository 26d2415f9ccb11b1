-- Bits of numbers: which number they make again, and headers that are cut from them. Assumes nothing.
use Rattle.std.proofs.Common.{◌≡◌, ℕ, zero, suc, ◌+◌, ◌*◌, ◌/◌, ◌%◌, ◌^◌, ◌<◌, true, leb, List, [], ◌∷◌, ◌++◌, length, take, drop, refl, ap, ◌∙◌, mod-eq_of_lt, pow-suc, arith}
use Rattle.std.proofs.lemmas.Nat.{mod_below, mod-pow-add, shr-shr}
use Rattle.std.proofs.lemmas.List.{length-drop, length-take-le, take-append-drop}
use Rattle.std.proofs.lemmas.Bool.{and_from, eq-eqb, lt-ltb, leb-true, leb-false, cond_both}
use Rattle.model.specs.Parser.{Bits}
use Rattle.model.specs.Refusal.{are_bits, sum, store_fits}
use Rattle.model.proofs.Every.{every_take, every_drop}
use Rattle.theory.specs.Number.{bits_number, number_bits, joined, parted, buffer_number, number_buffer}
use Rattle.product.specs.View.{store_of}

-- n bits of a number

pub length-number_bits : (n k : ℕ) → length (number_bits n k) ≡ n
length-number_bits zero k = refl
length-number_bits (suc n) k = ap suc (length-number_bits n (k / 2))

pub are_bits-number_bits : (n k : ℕ) → are_bits (number_bits n k) ≡ true
are_bits-number_bits zero k = refl
are_bits-number_bits (suc n) k = and_from _ _ (lt-ltb (k % 2) 2 (mod_below k 2 (omega arith))) (are_bits-number_bits n (k / 2))

-- the lowest bit and the others, below a power
split_low : (n k : ℕ) → k % 2 + 2 * (k / 2 % 2 ^ n) ≡ k % 2 ^ suc n
split_low n k =
    let e : k % 2 ^ (n + 1) ≡ (k / 2 ^ 1 % 2 ^ n) * 2 ^ 1 + k % 2 ^ 1 = mod-pow-add k n 1 in
    let s : 2 ^ (n + 1) ≡ 2 ^ suc n = ap (λ m. 2 ^ m) (omega arith) in
    omega (arith, e, ap (λ m. k % m) s)

pub bits_number_bits : (n k : ℕ) → bits_number (number_bits n k) ≡ k % 2 ^ n
bits_number_bits zero k = omega arith
bits_number_bits (suc n) k = ap (λ m. k % 2 + 2 * m) (bits_number_bits n (k / 2)) ∙ split_low n k

-- one bit more, at the end
pub number_bits_more : (n k : ℕ) → number_bits (suc n) k ≡ number_bits n k ++ (k / 2 ^ n % 2) ∷ []
number_bits_more zero k = ap (λ m. m % 2 ∷ []) (omega arith)
number_bits_more (suc n) k =
    let e : k / 2 / 2 ^ n ≡ k / 2 ^ suc n = shr-shr k 1 n ∙ ap (λ m. k / 2 ^ m) (omega arith) in
    ap (λ bs. k % 2 ∷ bs) (number_bits_more n (k / 2) ∙ ap (λ m. number_bits n (k / 2) ++ (m % 2) ∷ []) e)

-- headers cut from a row

pub joined-parted : (ns : List ℕ) (bs : Bits) → length bs ≡ sum ns → joined (parted ns bs) ≡ bs
joined-parted [] [] l = refl
joined-parted [] (b ∷ bs) l = absurd (omega arith)
joined-parted (n ∷ ns) bs l = ap (λ cs. take n bs ++ cs) (joined-parted ns (drop n bs) (omega (arith, length-drop n bs))) ∙ take-append-drop n bs

pub parted-fits : (ns : List ℕ) (bs : Bits) → length bs ≡ sum ns → are_bits bs ≡ true → store_fits ns (parted ns bs) ≡ true
parted-fits [] bs l bits = refl
parted-fits (n ∷ ns) bs l bits =
    and_from _ _ (and_from _ _ (eq-eqb _ _ (length-take-le n bs (omega arith))) (every_take _ bs bits n))
    (parted-fits ns (drop n bs) (omega (arith, length-drop n bs)) (every_drop _ bs bits n))

pub store_of_fits : (ns : List ℕ) (k : ℕ) → store_fits ns (store_of ns k) ≡ true
store_of_fits ns k = parted-fits ns (number_bits (sum ns) k) (length-number_bits (sum ns) k) (are_bits-number_bits (sum ns) k)

pub store_of_number : (ns : List ℕ) (k : ℕ) → k < 2 ^ sum ns → bits_number (joined (store_of ns k)) ≡ k
store_of_number ns k l =
    ap bits_number (joined-parted ns (number_bits (sum ns) k) (length-number_bits (sum ns) k)) ∙ bits_number_bits (sum ns) k ∙ mod_small
  where
    mod_small : k % 2 ^ sum ns ≡ k
    mod_small = mod-eq_of_lt l

-- the buffer of a number

pub are_bits-number_buffer : (n k : ℕ) → are_bits (number_buffer n k) ≡ true
are_bits-number_buffer zero k = refl
are_bits-number_buffer (suc n) k =
    cond_both (leb k 1) [] (k % 2 ∷ number_buffer n (k / 2)) (λ bs. are_bits bs ≡ true) (λ e. refl)
    (λ e. and_from _ _ (lt-ltb (k % 2) 2 (mod_below k 2 (omega arith))) (are_bits-number_buffer n (k / 2)))

pub buffer_number_buffer : (n k : ℕ) → 0 < k → k < 2 ^ n → buffer_number (number_buffer n k) ≡ k
buffer_number_buffer zero k some l = omega arith
buffer_number_buffer (suc n) k some l =
    cond_both (leb k 1) [] (k % 2 ∷ number_buffer n (k / 2)) (λ bs. buffer_number bs ≡ k)
    (λ e. omega (arith, leb-true k 1 e))
    (λ e.
    let above : 1 < k = leb-false k 1 e in
    omega (arith, buffer_number_buffer n (k / 2) (omega arith) (omega (arith, pow-suc 2 n))))
