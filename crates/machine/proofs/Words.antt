-- Words that are 0, and a row of which the first word is changed. Assumes nothing.
use Rattle.std.proofs.Common.{◌≡◌, ℕ, zero, suc, ◌/◌, ◌%◌, ◌^◌, ◌≤◌, List, get_or, set, replicate, refl, ap, ◌∙◌, arith}
use native.Mathlib.Nat.{div-eq_of_lt}
use Rattle.std.proofs.lemmas.Nat.{pow_pos}
use Rattle.std.proofs.lemmas.List.{get_or-set_other}
use Rattle.rows.specs.Row.{bit_in}

-- a row of words that are 0
none : (n i : ℕ) → get_or (replicate {A = ℕ} n 0) i 0 ≡ 0
none zero i = refl
none (suc n) zero = refl
none (suc n) (suc i) = none n i

pub row_none : (n k : ℕ) → bit_in (replicate {A = ℕ} n 0) k ≡ 0
row_none n k =
    ap (λ w. w / 2 ^ (k % 64) % 2) (none n (k / 64)) ∙ ap (λ w. w % 2) (div-eq_of_lt (pow_pos (k % 64)))

-- the first word of a row is changed
pub row_rest : (ws : List ℕ) (v k : ℕ) → 64 ≤ k → bit_in (set ws 0 v) k ≡ bit_in ws k
row_rest ws v k l = ap (λ w. w / 2 ^ (k % 64) % 2) (get_or-set_other ws 0 (k / 64) v 0 (λ e. omega arith))
