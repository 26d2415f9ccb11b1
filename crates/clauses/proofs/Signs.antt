-- Bits as numbers.
use Rattle.std.proofs.Common.{◌≡◌, ℕ, ◌+◌, ◌-◌, ◌/◌, ◌%◌, ◌≤◌, Bool, true, false, not, ◌⊎◌, nat_eq, sym, refl, ap, ◌∙◌, inl, inr, ⊎_elim, arith}
use Rattle.std.proofs.Math.Bool.{beq}
use Rattle.std.proofs.lemmas.Bool.{cases_eq}
use Rattle.clauses.specs.Clauses.{bit, Holds}

pub bit_le : (b : Bool) → bit b ≤ 1
unfolding bit
bit_le true = omega arith
bit_le false = omega arith

pub bit_not : (b : Bool) → bit (not b) ≡ 1 - bit b
unfolding bit
bit_not true = refl
bit_not false = refl

pub bit_same : (b c : Bool) → beq b c ≡ true → bit b ≡ bit c
unfolding bit
bit_same true true is = refl
bit_same true false is = cc
bit_same false true is = cc
bit_same false false is = refl

pub bit_apart : (b c : Bool) → not (beq b c) ≡ true → bit b + bit c ≡ 1
unfolding bit
bit_apart true true is = cc
bit_apart true false is = refl
bit_apart false true is = refl
bit_apart false false is = cc

pub bit_odd : (l : ℕ) → bit (nat_eq (l % 2) 1) ≡ l % 2
unfolding bit
bit_odd l =
    ⊎_elim
    (λ (one : l % 2 ≡ 1). ap (λ x. bit (nat_eq x 1)) one ∙ sym one)
    (λ (ne : l % 2 ≡ 1 → ⊥).
    let zero : l % 2 ≡ 0 = omega arith in
    ap (λ x. bit (nat_eq x 1)) zero ∙ sym zero)
    (cases_eq (l % 2) 1)

-- a literal holds or is false
pub holds_or : (v : ℕ → Bool) (l : ℕ) → Holds v l ⊎ (bit (v (l / 2)) ≡ l % 2)
holds_or v l =
    ⊎_elim
    (λ (same : bit (v (l / 2)) ≡ l % 2). inr same)
    (λ (ne : bit (v (l / 2)) ≡ l % 2 → ⊥). inl (omega (arith, bit_le (v (l / 2)))))
    (cases_eq (bit (v (l / 2))) (l % 2))
