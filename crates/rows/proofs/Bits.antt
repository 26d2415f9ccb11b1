-- Bits of rows: where each stands, and what a change of one word does to them. Assumes nothing.
use Rattle.std.proofs.Common.{◌≡◌, ℕ, ◌+◌, ◌*◌, ◌/◌, ◌%◌, ◌<◌, List, length, get_or, set, sym, ap, ◌∙◌, ⊎_elim, arith}
use Rattle.std.proofs.lemmas.Nat.{mod_below}
use Rattle.std.proofs.lemmas.List.{get_or-set_same, get_or-set_other}
use Rattle.std.proofs.lemmas.Bool.{cases_eq}
use Rattle.rows.specs.Row.{bit_in}
use Rattle.std.specs.Int.{bit_at}

-- bit k of the words from `base` on
pub bit_from : (ws : List ℕ) (base k : ℕ) → bit_in ws (64 * base + k) ≡ bit_at (get_or ws (base + k / 64) 0) (k % 64)
bit_from ws base k =
    let word : (64 * base + k) / 64 ≡ base + k / 64 = omega arith in
    let place : (64 * base + k) % 64 ≡ k % 64 = omega arith in
    ap (λ n. bit_at (get_or ws n 0) ((64 * base + k) % 64)) word ∙ ap (λ n. bit_at (get_or ws (base + k / 64) 0) n) place

-- one word is changed, and in it one bit
module _ (ws : List ℕ) (base k v : ℕ) (within : base + k / 64 < length ws) where
  pub bit_set_same : bit_in (set ws (base + k / 64) v) (64 * base + k) ≡ bit_at v (k % 64)
  bit_set_same = bit_from (set ws (base + k / 64) v) base k ∙ ap (λ n. bit_at n (k % 64)) (get_or-set_same ws (base + k / 64) v 0 within)

  pub bit_set_other : ((i : ℕ) → i < 64 → (i ≡ k % 64 → ⊥) → bit_at v i ≡ bit_at (get_or ws (base + k / 64) 0) i)
      → (j : ℕ) → (j ≡ 64 * base + k → ⊥) → bit_in (set ws (base + k / 64) v) j ≡ bit_in ws j
  bit_set_other same j ne =
      ⊎_elim
      (λ (e : j / 64 ≡ base + k / 64).
      let apart : j % 64 ≡ k % 64 → ⊥ = λ f. ne (omega arith) in
      ap (λ n. bit_at (get_or (set ws (base + k / 64) v) n 0) (j % 64)) e
      ∙ ap (λ n. bit_at n (j % 64)) (get_or-set_same ws (base + k / 64) v 0 within)
      ∙ same (j % 64) (mod_below j 64 (omega arith)) apart
      ∙ sym (ap (λ n. bit_at (get_or ws n 0) (j % 64)) e))
      (λ (e : j / 64 ≡ base + k / 64 → ⊥). ap (λ n. bit_at n (j % 64)) (get_or-set_other ws (base + k / 64) (j / 64) v 0 e))
      (cases_eq (j / 64) (base + k / 64))
