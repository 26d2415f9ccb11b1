-- Bits are 0 or 1. Assumes nothing.
use Rattle.std.proofs.Common.{◌≡◌, ℕ, zero, suc, ◌<◌, ◌≤◌, true, cond, eqb, List, [], ◌∷◌, get_or, ap, ◌∙◌, ⊎_elim, arith}
use Rattle.std.proofs.lemmas.Bool.{and_parts, ltb-true, cases_lt, eq-eqb, ne_eqb}
use Rattle.model.specs.Refusal.{are_bits}

-- a test of a bit says which it is
pub bit_told : (b : ℕ) → b < 2 → cond (eqb b 1) 1 0 ≡ b
bit_told b l = ⊎_elim (λ (h : b < 1). ap (λ t. cond t 1 0) (ne_eqb b 1 (λ e. omega arith)) ∙ omega arith) (λ (h : 1 ≤ b). ap (λ t. cond t 1 0) (eq-eqb b 1 (omega arith)) ∙ omega arith) (cases_lt b 1)

pub bits_small : (bs : List ℕ) → are_bits bs ≡ true → (i : ℕ) → get_or bs i 0 < 2
bits_small [] a i = omega arith
bits_small (b ∷ bs) a zero = ltb-true b 2 (and_parts _ _ a).0
bits_small (b ∷ bs) a (suc i) = bits_small bs (and_parts _ _ a).1 i
