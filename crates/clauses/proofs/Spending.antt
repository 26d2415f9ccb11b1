-- Work that is taken in parts.
use Rattle.std.proofs.Common.{◌≡◌, ℕ, ◌+◌, ◌-◌, ◌*◌, ◌≤◌, sym, ap, ◌∙◌, mul-le-mul_right, add-mul, one-mul, arith}
use Rattle.clauses.specs.Budget.{Spent}

pub spent_none : (work limit : ℕ) (Out : Type 0) → (Out → ⊥) → Spent work work limit Out
spent_none work limit Out never = record { less = omega arith; bound = omega arith; none = λ o. absurd (never o); short = λ o. absurd (never o) }

-- one part, and then another
pub spent_both : (work mid left a b total : ℕ) (Out Out₁ Out₂ : Type 0) → Spent work mid a Out → Spent mid left b Out₁ → a + b ≤ total → (Out₂ → Out₁) → Spent work left total Out₂
spent_both work mid left a b total Out Out₁ Out₂ h k le out = record {
  less = omega (arith, h.less, k.less);
  bound = omega (arith, h.bound, k.bound);
  none = λ o. k.none (out o);
  short = λ o. omega (arith, h.bound, k.short (out o));
}

-- under a larger limit
pub spent_up : (work left a total : ℕ) (Out Out₁ : Type 0) → Spent work left a Out → a ≤ total → (Out₁ → Out) → Spent work left total Out₁
spent_up work left a total Out Out₁ h le out = record {
  less = h.less;
  bound = omega (arith, h.bound);
  none = λ o. h.none (out o);
  short = λ o. omega (arith, h.short (out o));
}

pub mul_more : (k m : ℕ) → k * m + m ≡ (k + 1) * m
mul_more k m = sym (add-mul k 1 m ∙ ap (λ x. k * m + x) (one-mul m))

-- from a to b, and then to c
pub mul_parts : (a b c m : ℕ) → a ≤ b → b ≤ c → (b - a) * m + (c - b) * m ≡ (c - a) * m
mul_parts a b c m p q = sym (add-mul (b - a) (c - b) m) ∙ (let e : b - a + (c - b) ≡ c - a = omega arith in ap (λ x. x * m) e)

-- counted from an earlier index
pub spent_from : (work left at h next m : ℕ) (Out Out₁ : Type 0) → Spent work left ((next - h) * m) Out → at ≤ h → (Out₁ → Out) → Spent work left ((next - at) * m) Out₁
spent_from work left at h next m Out Out₁ spent le out = let wide : next - h ≤ next - at = omega arith in spent_up work left _ _ Out Out₁ spent (mul-le-mul_right m wide) out

-- for what was read from `at` to `mid`, and then to `next`
pub spent_on : (work half left at mid next m : ℕ) (Out Out₁ Out₂ : Type 0) → Spent work half ((mid - at) * m) Out → Spent half left ((next - mid) * m) Out₁ → at ≤ mid → mid ≤ next → (Out₂ → Out₁) → Spent work left ((next - at) * m) Out₂
spent_on work half left at mid next m Out Out₁ Out₂ h k p q out = spent_both work half left ((mid - at) * m) ((next - mid) * m) ((next - at) * m) Out Out₁ Out₂ h k (omega (arith, mul_parts at mid next m p q)) out
