-- Rows of bits as numbers, and back: of one row, of a store, and of a buffer.
use Rattle.std.proofs.Common.{◌≡◌, ℕ, zero, suc, ◌+◌, ◌*◌, ◌/◌, ◌%◌, ◌^◌, ◌<◌, true, leb, List, [], ◌∷◌, length, refl, ap, ◌∙◌, ap₂, not-suc-le-zero, pow-suc, arith}
use Rattle.std.proofs.lemmas.Nat.{pow_pos}
use Rattle.std.proofs.lemmas.List.{length-append, take_at, drop_at}
use Rattle.std.proofs.lemmas.Bool.{false≢true, ltb-true, eqb-true, lt-leb, and_parts, cond-false}
use Rattle.model.specs.Parser.{Bits, Store}
use Rattle.model.specs.Refusal.{are_bits, sum, store_fits}
use Rattle.model.proofs.Every.{every_append}
use Rattle.theory.specs.Number.{bits_number, number_bits, joined, parted, buffer_number, number_buffer}

-- the lowest bit of a number, and the rest
low_bit : (b k : ℕ) → b < 2 → (b + 2 * k) % 2 ≡ b
low_bit b k l = omega arith

without_low_bit : (b k : ℕ) → b < 2 → (b + 2 * k) / 2 ≡ k
without_low_bit b k l = omega arith

-- bits of a row
module _ (b : ℕ) (bs : Bits) (e : are_bits (b ∷ bs) ≡ true) where
  first_bit : b < 2
  first_bit = ltb-true b 2 (and_parts _ _ e).0

  later_bits : are_bits bs ≡ true
  later_bits = (and_parts _ _ e).1

-- one row

pub bits_number_below : (bs : Bits) → are_bits bs ≡ true → bits_number bs < 2 ^ length bs
bits_number_below [] e = pow_pos 0
bits_number_below (b ∷ bs) e =
    omega (arith, first_bit b bs e, bits_number_below bs (later_bits b bs e), pow-suc 2 (length bs))

pub number-bits_number : (bs : Bits) → are_bits bs ≡ true → number_bits (length bs) (bits_number bs) ≡ bs
number-bits_number [] e = refl
number-bits_number (b ∷ bs) e =
    let l = first_bit b bs e in
    ap₂ (λ c k. c ∷ number_bits (length bs) k) (low_bit b (bits_number bs) l) (without_low_bit b (bits_number bs) l)
    ∙ ap (λ cs. b ∷ cs) (number-bits_number bs (later_bits b bs e))

-- a store

pub length-joined : (ns : List ℕ) (s : Store) → store_fits ns s ≡ true → length (joined s) ≡ sum ns
length-joined [] [] e = refl
length-joined [] (b ∷ s) e = absurd (false≢true e)
length-joined (n ∷ ns) [] e = absurd (false≢true e)
length-joined (n ∷ ns) (b ∷ s) e =
    let p = and_parts _ _ e in
    length-append b (joined s) ∙ ap₂ (λ j k. j + k) (eqb-true (length b) n (and_parts _ _ p.0).0) (length-joined ns s p.1)

pub are_bits-joined : (ns : List ℕ) (s : Store) → store_fits ns s ≡ true → are_bits (joined s) ≡ true
are_bits-joined [] [] e = refl
are_bits-joined [] (b ∷ s) e = absurd (false≢true e)
are_bits-joined (n ∷ ns) [] e = absurd (false≢true e)
are_bits-joined (n ∷ ns) (b ∷ s) e =
    let p = and_parts _ _ e in every_append _ b (joined s) (and_parts _ _ p.0).1 (are_bits-joined ns s p.1)

pub parted-joined : (ns : List ℕ) (s : Store) → store_fits ns s ≡ true → parted ns (joined s) ≡ s
parted-joined [] [] e = refl
parted-joined [] (b ∷ s) e = absurd (false≢true e)
parted-joined (n ∷ ns) [] e = absurd (false≢true e)
parted-joined (n ∷ ns) (b ∷ s) e =
    let p = and_parts _ _ e in
    let l : length b ≡ n = eqb-true (length b) n (and_parts _ _ p.0).0 in
    ap₂ (λ c cs. c ∷ parted ns cs) (take_at b (joined s) n l) (drop_at b (joined s) n l) ∙ ap (λ t. b ∷ t) (parted-joined ns s p.1)

-- a buffer

pub buffer_number_some : (bs : Bits) → 0 < buffer_number bs
buffer_number_some [] = omega arith
buffer_number_some (b ∷ bs) = omega (arith, buffer_number_some bs)

pub buffer_number_below : (bs : Bits) → are_bits bs ≡ true → (n : ℕ) → length bs < n → buffer_number bs < 2 ^ n
buffer_number_below bs e zero l = absurd (not-suc-le-zero l)
buffer_number_below [] e (suc n) l = omega (arith, pow-suc 2 n, pow_pos n)
buffer_number_below (b ∷ bs) e (suc n) l =
    omega (arith, first_bit b bs e, buffer_number_below bs (later_bits b bs e) n (omega arith), pow-suc 2 n)

pub number-buffer_number : (bs : Bits) → are_bits bs ≡ true → (n : ℕ) → length bs < n → number_buffer n (buffer_number bs) ≡ bs
number-buffer_number bs e zero l = absurd (not-suc-le-zero l)
number-buffer_number [] e (suc n) l = refl
number-buffer_number (b ∷ bs) e (suc n) l =
    let k : ℕ = buffer_number bs in
    let s = first_bit b bs e in
    cond-false (leb (b + 2 * k) 1) _ _ (lt-leb (b + 2 * k) 1 (omega (arith, buffer_number_some bs)))
    ∙ ap₂ (λ c j. c ∷ number_buffer n j) (low_bit b k s) (without_low_bit b k s)
    ∙ ap (λ cs. b ∷ cs) (number-buffer_number bs (later_bits b bs e) n (omega arith))
