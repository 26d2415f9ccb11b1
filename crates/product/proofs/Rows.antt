-- Headers in the first word of a store are the bits of a number. Assumes nothing.
use Rattle.std.proofs.Common.{◌≡◌, ℕ, zero, suc, ◌+◌, ◌/◌, ◌%◌, ◌^◌, ◌<◌, ◌≤◌, List, [], ◌∷◌, ◌++◌, get_or, sym, refl, ap, ◌∙◌, ap₂, add-zero, zero-add, arith}
use Rattle.std.proofs.lemmas.Nat.{shr-shr}
use Rattle.std.proofs.lemmas.List.{take_at, drop_at}
use Rattle.model.specs.Refusal.{sum}
use Rattle.machine.specs.Row.{bit_in, part, headers}
use Rattle.machine.proofs.Rows.{length_part}
use Rattle.theory.specs.Number.{number_bits, parted}
use Rattle.theory.proofs.BitRows.{number-bits_number}
use Rattle.product.specs.View.{store_of}
use Rattle.product.proofs.BitNumbers.{length-number_bits, are_bits-number_bits, bits_number_bits}

part_split : (ws : List ℕ) (k n m : ℕ) → part (bit_in ws) k (n + m) ≡ part (bit_in ws) k n ++ part (bit_in ws) (k + n) m
part_split ws k zero m = ap₂ (part (bit_in ws)) (sym (add-zero k)) (zero-add m)
part_split ws k (suc n) m =
    let more : suc n + m ≡ suc (n + m) = omega arith in
    let on : suc k + n ≡ k + suc n = omega arith in
    ap (part (bit_in ws) k) more ∙ ap (λ bs. bit_in ws k ∷ bs) (part_split ws (suc k) n m ∙ ap (λ j. part (bit_in ws) (suc k) n ++ part (bit_in ws) j m) on)

headers-parted : (ws : List ℕ) (k : ℕ) (ns : List ℕ) → headers (bit_in ws) k ns ≡ parted ns (part (bit_in ws) k (sum ns))
headers-parted ws k [] = refl
headers-parted ws k (n ∷ ns) =
    let a : List ℕ = part (bit_in ws) k n in
    let b : List ℕ = part (bit_in ws) (k + n) (sum ns) in
    ap (λ s. a ∷ s) (headers-parted ws (k + n) ns)
    ∙ sym (ap (parted (n ∷ ns)) (part_split ws k n (sum ns)) ∙ ap₂ (λ x y. x ∷ parted ns y) (take_at a b n (length_part (bit_in ws) k n)) (drop_at a b n (length_part (bit_in ws) k n)))

-- bits of the first word
first_bit : (ws : List ℕ) (k : ℕ) → k < 64 → bit_in ws k ≡ get_or ws 0 0 / 2 ^ k % 2
first_bit ws k l =
    let high : k / 64 ≡ 0 = omega arith in
    let low : k % 64 ≡ k = omega arith in
    ap₂ (λ i j. get_or ws i 0 / 2 ^ j % 2) high low

part-number : (ws : List ℕ) (k n : ℕ) → k + n ≤ 64 → part (bit_in ws) k n ≡ number_bits n (get_or ws 0 0 / 2 ^ k)
part-number ws k zero l = refl
part-number ws k (suc n) l =
    let next : get_or ws 0 0 / 2 ^ suc k ≡ get_or ws 0 0 / 2 ^ k / 2 = ap (λ j. get_or ws 0 0 / 2 ^ j) (omega arith) ∙ sym (shr-shr (get_or ws 0 0) k 1) in
    ap₂ (λ b bs. b ∷ bs) (first_bit ws k (omega arith)) (part-number ws (suc k) n (omega arith) ∙ ap (number_bits n) next)

-- only the lowest bits count
pub number_bits_low : (n k : ℕ) → number_bits n (k % 2 ^ n) ≡ number_bits n k
number_bits_low n k =
    let bs : List ℕ = number_bits n k in
    sym (ap₂ number_bits (length-number_bits n k) (bits_number_bits n k)) ∙ number-bits_number bs (are_bits-number_bits n k)

pub store_of_low : (ns : List ℕ) (k : ℕ) → store_of ns (k % 2 ^ sum ns) ≡ store_of ns k
store_of_low ns k = ap (parted ns) (number_bits_low (sum ns) k)

pub contents_word : (ws ns : List ℕ) → sum ns ≤ 64 → headers (bit_in ws) 0 ns ≡ store_of ns (get_or ws 0 0)
contents_word ws ns l =
    let whole : get_or ws 0 0 / 2 ^ 0 ≡ get_or ws 0 0 = omega arith in
    headers-parted ws 0 ns ∙ ap (parted ns) (part-number ws 0 (sum ns) (omega arith) ∙ ap (number_bits (sum ns)) whole)
