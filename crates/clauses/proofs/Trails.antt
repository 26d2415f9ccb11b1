-- What is known, and the trail.
use Rattle.std.proofs.Common.{◌≡◌, ℕ, ◌+◌, ◌<◌, ◌≤◌, Bool, List, length, get_or, set, sym, refl, ap, ◌∙◌, subst, inl, inr, ⊎_elim, arith, length-set}
use Rattle.std.proofs.lemmas.List.{get_or-set_same, get_or-set_other, get_or_past, ext_get_or}
use Rattle.std.proofs.lemmas.Bool.{cases_eq}
use Rattle.clauses.specs.Known.{Allows, Trailed, On, Since, Kept, Undone}
use Rattle.clauses.specs.declared.known.Known.{Known as Knowledge}

-- the last taken from the trail
pub trailed_pop : (before value trail : List ℕ) (base d q : ℕ) → Trailed before value trail base (d + 1) → base ≤ d → get_or trail d 0 ≡ q → q < length value → Trailed before (set value q 2) trail base d
trailed_pop before value trail base d q h le top within = record {
  low = le;
  deep = omega (arith, h.deep);
  long = length-set value q 2 ∙ h.long;
  changed = λ p. ⊎_elim
      (λ (same : p ≡ q).
      inl (ap (λ x. get_or (set value q 2) x 0) same ∙ get_or-set_same value q 2 0 within ∙ sym (h.was d le (omega arith)) ∙ ap (λ x. get_or before x 0) (top ∙ sym same)))
      (λ (ne : p ≡ q → ⊥). ⊎_elim
      (λ old. inl (get_or-set_other value q p 2 0 ne ∙ old))
      (λ (on : On trail base (d + 1) p).
      let other : on.0 ≡ d → ⊥ = λ e. ne (sym on.3 ∙ ap (λ x. get_or trail x 0) e ∙ top) in
      let lt : on.0 < d = omega (arith, on.2) in
      inr (on.0, on.1, lt, on.3))
      (h.changed p))
      (cases_eq p q);
  was = λ k l lt. h.was k l (omega arith);
}

-- the last on the trail is a position of value
pub trailed_inside : (before value trail : List ℕ) (base d q : ℕ) → Trailed before value trail base (d + 1) → base ≤ d → get_or trail d 0 ≡ q → length value ≤ q → ⊥
trailed_inside before value trail base d q h le top past =
    let two : get_or before q 0 ≡ 2 = ap (λ x. get_or before x 0) (sym top) ∙ h.was d le (omega arith) in
    let none : get_or before q 0 ≡ 0 = get_or_past before q 0 (omega (arith, h.long)) in
    omega arith

pub trailed_none : (value trail : List ℕ) (d : ℕ) → d ≤ length trail → Trailed value value trail d d
trailed_none value trail d h = record {
  low = omega arith;
  deep = h;
  long = refl;
  changed = λ q. inl refl;
  was = λ k le lt. absurd (omega arith);
}

pub trailed_back : (before value trail : List ℕ) (d : ℕ) → Trailed before value trail d d → value ≡ before
trailed_back before value trail d h =
    ext_get_or 0 value before h.long
    (λ i l. ⊎_elim (λ old. old) (λ (on : On trail d d i). absurd (omega (arith, on.1, on.2))) (h.changed i))

pub allows_same : (v : ℕ → Bool) (k k' : Knowledge) → k'.rep ≡ k.rep → k'.value.now ≡ k.value.now → Allows k v → Allows k' v
allows_same v k k' rep value h = rw (rep, value) h

-- nothing happened
pub kept_none : (k : Knowledge) → Kept k k
kept_none k = record { rep = refl; value = refl; trail = refl; bits = refl; steps = refl; undoes = λ before base h. h }

-- one step and then another
pub kept_both : (k k₁ k₂ : Knowledge) → Kept k k₁ → Kept k₁ k₂ → Kept k k₂
kept_both k k₁ k₂ h g = record {
  rep = g.rep ∙ h.rep;
  value = g.value ∙ h.value;
  trail = g.trail ∙ h.trail;
  bits = g.bits ∙ h.bits;
  steps = g.steps ∙ h.steps;
  undoes = λ before base t. g.undoes before base (h.undoes before base t);
}

-- some steps and then undone
module _ (k k₁ k₂ : Knowledge) (kept : Kept k k₁) (undone : Undone k₁ k.depth k₂) where
  entry : Since k.value.now k.depth k₁
  entry = kept.undoes k.value.now k.depth (trailed_none k.value.now k.trail.now k.depth k.within)

  pub undone_depth : k₂.depth ≡ k.depth
  undone_depth = undone.depth entry.low

  pub undone_same : k₂.value.now ≡ k.value.now
  undone_same =
      let t = undone.undoes k.value.now k.depth (omega arith) entry.low entry in
      trailed_back k.value.now k₂.value.now k₂.trail.now k.depth (subst (λ d. Trailed k.value.now k₂.value.now k₂.trail.now k.depth d) undone_depth t)

  pub undone_kept : Kept k k₂
  undone_kept = record {
    rep = undone.rep ∙ kept.rep;
    value = undone.value ∙ kept.value;
    trail = undone.trail ∙ kept.trail;
    bits = undone.bits ∙ kept.bits;
    steps = ap length undone.room ∙ kept.steps;
    undoes = λ before base h. undone.undoes before base h.low entry.low (kept.undoes before base h);
  }
