-- Headers laid into the room one after the other are what the answer reads there.
use Rattle.std.proofs.Common.{◌≡◌, ℕ, zero, suc, ◌+◌, ◌-◌, ◌*◌, ◌/◌, ◌%◌, ◌^◌, ◌<◌, ◌≤◌, List, [], ◌∷◌, length, get_or, take, drop, set, sym, refl, ap, ◌∙◌, ap₂, ⊎_elim, not-suc-le-zero, div-one, add-one, arith}
use lib.Bits.{bit_and}
use Rattle.std.proofs.lemmas.Nat.{and_mask, one_shl}
use Rattle.std.proofs.lemmas.List.{get_or-set_same, get_or-set_other, get_or-drop, length-set, take_at, drop_at}
use Rattle.std.proofs.lemmas.Bool.{cases_eq}
use Rattle.model.specs.Refusal.{sum}
use Rattle.rows.specs.Row.{bits_in, row_in, row_end, rows_in, rows_end, store_in, store_end}
use Rattle.theory.specs.Number.{number_bits, parted}
use Rattle.compare.specs.Pieces.{Narrow, above, Stand, Laid, store_words}
use Rattle.compare.proofs.Cutting.{number_bits-add, bits_in_word}
use Rattle.product.proofs.BitNumbers.{length-number_bits}
use Rattle.product.proofs.Rows.{number_bits_low}

above_none : (ns : List ℕ) (x : ℕ) → above ns 0 x ≡ x
above_none [] x = refl
above_none (n ∷ ns) x = refl

above_more : (ns : List ℕ) (j x : ℕ) → j < length ns → above ns (suc j) x ≡ above ns j x / 2 ^ get_or ns j 0
above_more [] j x l = absurd (not-suc-le-zero l)
above_more (n ∷ ns) zero x l = above_none ns (x / 2 ^ n)
above_more (n ∷ ns) (suc j) x l = above_more ns j (x / 2 ^ n) (omega arith)

-- the row of one header
module _ (room : List ℕ) (at n x : ℕ) (size : get_or room at 0 ≡ n) (bits : get_or room (suc at) 0 ≡ x % 2 ^ n) (some : 0 < n) (narrow : n < 64) where
  row_laid : row_in room at ≡ number_bits n x
  row_laid =
      ap (bits_in (drop (suc at) room) 0) size ∙ bits_in_word (drop (suc at) room) n 0 (omega arith)
      ∙ ap (number_bits n) (div-one (get_or (drop (suc at) room) 0 0) ∙ get_or-drop (suc at) room 0 0 ∙ ap (λ k. get_or room k 0) past ∙ bits)
      ∙ number_bits_low n x
    where
      past : suc at + 0 ≡ suc at
      past = omega arith

  row_laid_end : row_end room at ≡ at + 2
  row_laid_end = ap (λ k. suc at + (k + 63) / 64) size ∙ (omega arith)

-- the headers after the first
stand_rest : (n : ℕ) (ns room : List ℕ) (at x i : ℕ) → Stand (n ∷ ns) room at x (suc i) → Stand ns room (at + 2) (x / 2 ^ n) i
stand_rest n ns room at x i s = record {
  sizes = λ j l. let e : (at + 2) + 2 * j ≡ at + 2 * suc j = omega arith in ap (λ k. get_or room k 0) e ∙ s.sizes (suc j) (omega arith);
  bits = λ j l. let e : suc ((at + 2) + 2 * j) ≡ suc (at + 2 * suc j) = omega arith in ap (λ k. get_or room k 0) e ∙ s.bits (suc j) (omega arith);
}

rows_laid : (ns room : List ℕ) (at x : ℕ) → Narrow ns → Stand ns room at x (length ns)
    → (rows_in room (length ns) at ≡ parted ns (number_bits (sum ns) x)) × (rows_end room (length ns) at ≡ at + 2 * length ns)
rows_laid [] room at x narrow s = (refl, omega arith)
rows_laid (n ∷ ns) room at x narrow s =
    let start : at + 2 * 0 ≡ at = omega arith in
    let size : get_or room at 0 ≡ n = ap (λ k. get_or room k 0) (sym start) ∙ s.sizes 0 (omega arith) in
    let bits : get_or room (suc at) 0 ≡ x % 2 ^ n = ap (λ k. get_or room (suc k) 0) (sym start) ∙ s.bits 0 (omega arith) in
    let own = narrow 0 (omega arith) in
    let row = row_laid room at n x size bits own.0 own.1 in
    let end = row_laid_end room at n x size bits own.0 own.1 in
    let rest = rows_laid ns room (at + 2) (x / 2 ^ n) (λ j l. narrow (suc j) (omega arith)) (stand_rest n ns room at x (length ns) s) in
    let cut = number_bits-add n (sum ns) x in
    let first : take n (number_bits (n + sum ns) x) ≡ number_bits n x = ap (take n) cut ∙ take_at (number_bits n x) (number_bits (sum ns) (x / 2 ^ n)) n (length-number_bits n x) in
    let later : drop n (number_bits (n + sum ns) x) ≡ number_bits (sum ns) (x / 2 ^ n) = ap (drop n) cut ∙ drop_at (number_bits n x) (number_bits (sum ns) (x / 2 ^ n)) n (length-number_bits n x) in (
      ap₂ (λ b k. b ∷ rows_in room (length ns) k) row end ∙ ap (λ bs. number_bits n x ∷ bs) rest.0
          ∙ sym (ap₂ (λ b bs. b ∷ parted ns bs) first later),
      ap (rows_end room (length ns)) end ∙ rest.1 ∙ (omega arith),
    )

-- at the end
module _ (ns before room : List ℕ) (at x rest : ℕ) (narrow : Narrow ns) (l : Laid ns before room at x (length ns) rest) where
  pub store_laid : store_in room at ≡ parted ns (number_bits (sum ns) x)
  store_laid = ap₂ (rows_in room) l.counted (sym (add-one at)) ∙ (rows_laid ns room (at + 1) x narrow l.stand).0

  pub store_laid_end : store_end room at ≡ at + store_words ns
  store_laid_end = ap₂ (rows_end room) l.counted (sym (add-one at)) ∙ (rows_laid ns room (at + 1) x narrow l.stand).1 ∙ (omega arith)

-- one header more
module _ (ns before room : List ℕ) (at x i rest next : ℕ) (narrow : Narrow ns) (fits : at + store_words ns ≤ length room) (l : Laid ns before room at x i rest) (from : next ≡ at + (1 + 2 * i)) (more : i < length ns) where
  n : ℕ
  n = get_or ns i 0

  piece : ℕ
  piece = bit_and rest ((1 * 2 ^ get_or ns i 0) % 18446744073709551616 - 1)

  after : List ℕ
  after = set (set room next (get_or ns i 0)) (next + 1) piece

  at_next : get_or after next 0 ≡ get_or ns i 0
  unfolding after
  at_next = get_or-set_other (set room next (get_or ns i 0)) (next + 1) next piece 0 (λ e. omega arith) ∙ get_or-set_same room next (get_or ns i 0) 0 (omega (arith, from))

  at_bits : get_or after (next + 1) 0 ≡ above ns i x % 2 ^ get_or ns i 0
  unfolding after piece
  at_bits =
      get_or-set_same (set room next (get_or ns i 0)) (next + 1) piece 0 (omega (arith, from, length-set room next (get_or ns i 0)))
      ∙ ap (λ m. bit_and rest (m - 1)) (one_shl (get_or ns i 0) 64 (narrow i more).1) ∙ and_mask rest (get_or ns i 0) ∙ ap (λ y. y % 2 ^ get_or ns i 0) l.left

  elsewhere : (k : ℕ) → (k ≡ next → ⊥) → (k ≡ next + 1 → ⊥) → get_or after k 0 ≡ get_or room k 0
  unfolding after
  elsewhere k p q = get_or-set_other (set room next (get_or ns i 0)) (next + 1) k piece 0 q ∙ get_or-set_other room next k (get_or ns i 0) 0 p

  pub laid_more : Laid ns before (set (set room next (get_or ns i 0)) (next + 1) (bit_and rest ((1 * 2 ^ get_or ns i 0) % 18446744073709551616 - 1))) at x (i + 1) (rest / 2 ^ get_or ns i 0)
  unfolding after piece
  laid_more = record {
    left = ap (λ y. y / 2 ^ get_or ns i 0) l.left ∙ sym (above_more ns i x more) ∙ ap (λ j. above ns j x) (sym (add-one i));
    counted = elsewhere at (λ e. omega (arith, from)) (λ e. omega (arith, from)) ∙ l.counted;
    stand = record {
      sizes = λ j below. ⊎_elim
          (λ (e : j ≡ i). let here : (at + 1) + 2 * j ≡ next = omega (arith, from) in ap (λ k. get_or after k 0) here ∙ at_next ∙ ap (λ k. get_or ns k 0) (sym e))
          (λ (ne : j ≡ i → ⊥). elsewhere ((at + 1) + 2 * j) (λ e. ne (omega (arith, from))) (λ e. omega (arith, from)) ∙ l.stand.sizes j (omega arith))
          (cases_eq j i);
      bits = λ j below. ⊎_elim
          (λ (e : j ≡ i). let here : suc ((at + 1) + 2 * j) ≡ next + 1 = omega (arith, from) in ap (λ k. get_or after k 0) here ∙ at_bits ∙ ap (λ k. above ns k x % 2 ^ get_or ns k 0) (sym e))
          (λ (ne : j ≡ i → ⊥). elsewhere (suc ((at + 1) + 2 * j)) (λ e. omega (arith, from)) (λ e. ne (omega (arith, from))) ∙ l.stand.bits j (omega arith))
          (cases_eq j i);
    };
    others = λ k out. elsewhere k (λ e. ⊎_elim (λ low. omega (arith, from)) (λ high. omega (arith, from)) out) (λ e. ⊎_elim (λ low. omega (arith, from)) (λ high. omega (arith, from)) out) ∙ l.others k out;
  }
