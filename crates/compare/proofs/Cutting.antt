-- A number's bits, cut in two, and read from one word of the room.
use Rattle.std.proofs.Common.{◌≡◌, ℕ, zero, suc, ◌+◌, ◌/◌, ◌%◌, ◌^◌, ◌≤◌, List, ◌∷◌, ◌++◌, get_or, sym, refl, ap, ◌∙◌, ap₂, suc-add, zero-add, div-one, add-one, arith}
use Rattle.std.proofs.lemmas.Nat.{shr-shr}
use Rattle.rows.specs.Row.{bits_in}
use Rattle.theory.specs.Number.{number_bits}

-- the bits of n + m are the first n, and m of what is above them
pub number_bits-add : (n m x : ℕ) → number_bits (n + m) x ≡ number_bits n x ++ number_bits m (x / 2 ^ n)
number_bits-add zero m x = ap₂ number_bits (zero-add m) (sym (div-one x))
number_bits-add (suc n) m x =
    ap (λ k. number_bits k x) (suc-add n m)
    ∙ ap (λ bs. x % 2 ∷ bs) (number_bits-add n m (x / 2))
    ∙ ap (λ y. x % 2 ∷ (number_bits n (x / 2) ++ number_bits m y)) (shr-shr x 1 n ∙ ap (λ k. x / 2 ^ k) (add_comm_one n))
  where
    add_comm_one : (k : ℕ) → 1 + k ≡ suc k
    add_comm_one k = omega arith

-- bits within the first word
pub bits_in_word : (ws : List ℕ) (n k : ℕ) → k + n ≤ 64 → bits_in ws k n ≡ number_bits n (get_or ws 0 0 / 2 ^ k)
bits_in_word ws zero k l = refl
bits_in_word ws (suc n) k l =
    let w : k / 64 ≡ 0 = omega arith in
    let b : k % 64 ≡ k = omega arith in
    ap₂ (λ i j. get_or ws i 0 / 2 ^ j % 2 ∷ bits_in ws (suc k) n) w b
    ∙ ap (λ bs. get_or ws 0 0 / 2 ^ k % 2 ∷ bs)
    (bits_in_word ws n (suc k) (omega arith) ∙ ap (λ y. number_bits n y) (sym (shr-shr (get_or ws 0 0) k 1 ∙ ap (λ j. get_or ws 0 0 / 2 ^ j) (add-one k))))
