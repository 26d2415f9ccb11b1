-- The lowest one of a word. Assumes nothing.
use Rattle.std.proofs.Common.{◌≡◌, ℕ, suc, ◌+◌, ◌-◌, ◌*◌, ◌/◌, ◌%◌, ◌^◌, ◌<◌, ◌≤◌, List, get_or, sym, ap, ◌∙◌, ⊎_elim, arith}
use Rattle.std.specs.Int.{w64, bit_at, trailing_zeros}
use Rattle.std.proofs.lemmas.Nat.{shr_le, shr-shr}
use Rattle.std.proofs.lemmas.Nat.Bits.{bit_at-zero, bit_at_above, bit_at-trailing_zeros}
use Rattle.std.proofs.lemmas.Bool.{cases_lt}
use Rattle.rows.specs.Row.{bit_in}
use Rattle.rows.specs.Lowest.{Zeros, LowestOne}
use Rattle.rows.proofs.Bits.{bit_from}

-- what is left of the word of bit k, shifted down to it
module _ (ws : List ℕ) (base k : ℕ) where
  abbrev rest_of : ℕ
  rest_of = get_or ws (base + k / 64) 0 / 2 ^ (k % 64)

  -- bit x of the row, in the word of bit k, is a bit of the rest
  near_bit : (x : ℕ) → k ≤ x → x < 64 * suc (k / 64) → bit_in ws (64 * base + x) ≡ bit_at rest_of (x - k)
  near_bit x above near =
      let same : x / 64 ≡ k / 64 = omega arith in
      let place : x % 64 ≡ k % 64 + (x - k) = omega arith in
      bit_from ws base x
      ∙ ap (λ y. bit_at (get_or ws (base + y) 0) (x % 64)) same
      ∙ ap (λ y. bit_at (get_or ws (base + k / 64) 0) y) place
      ∙ ap (λ y. y % 2) (sym (shr-shr (get_or ws (base + k / 64) 0) (k % 64) (x - k)))

  pub lowest_none : rest_of ≡ 0 → Zeros ws base k (64 * suc (k / 64))
  lowest_none none x above near = near_bit x above near ∙ ap (λ y. bit_at y (x - k)) none ∙ bit_at-zero (x - k)

  pub lowest_some : (rest_of ≡ 0 → ⊥) → get_or ws (base + k / 64) 0 < 2 ^ 64 → LowestOne ws base k (k + trailing_zeros w64 rest_of)
  lowest_some some fits =
      let t : ℕ = trailing_zeros w64 rest_of in
      let under_64 : rest_of < 2 ^ 64 = omega (arith, shr_le (get_or ws (base + k / 64) 0) (k % 64)) in
      let low = bit_at-trailing_zeros w64 rest_of (omega arith) under_64 in
      let one : bit_at rest_of t ≡ 1 = low.1 in
      let back : k + t - k ≡ t = omega arith in
      let in_word : k % 64 + t < 64 =
      ⊎_elim
      (λ (h : k % 64 + t < 64). h)
      (λ (h : 64 ≤ k % 64 + t).
      let none : bit_at rest_of t ≡ 0 = ap (λ y. y % 2) (shr-shr (get_or ws (base + k / 64) 0) (k % 64) t) ∙ bit_at_above (get_or ws (base + k / 64) 0) 64 (k % 64 + t) fits h in
      absurd (omega (arith, one, none)))
      (cases_lt (k % 64 + t) 64) in
      record {
        above = omega arith;
        near = omega (arith, in_word);
        one = near_bit (k + t) (omega arith) (omega (arith, in_word)) ∙ ap (bit_at rest_of) back ∙ one;
        zeros = λ x above below. near_bit x above (omega (arith, in_word)) ∙ low.2 (x - k) (omega arith);
      }
