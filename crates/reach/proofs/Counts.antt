-- How many numbers a set leaves out. Assumes nothing.
use Rattle.std.proofs.Common.{◌≡◌, ℕ, zero, suc, ◌+◌, ◌<◌, ◌≤◌, Bool, true, false, refl, ap, ◌∙◌, ⊎_elim, arith}
use Rattle.std.proofs.lemmas.Bool.{cases_eq}
use Rattle.reach.specs.Sets.{blanks, lack}

pub blanks_all : (f : ℕ → Bool) → ((x : ℕ) → f x ≡ false) → (n : ℕ) → blanks f n ≡ n
unfolding blanks
blanks_all f none zero = refl
blanks_all f none (suc n) = rw (none n, blanks_all f none n) (omega arith)

module _ (f g : ℕ → Bool) (p : ℕ) (others : (q : ℕ) → (q ≡ p → ⊥) → g q ≡ f q) where
  blanks_same : (n : ℕ) → n ≤ p → blanks g n ≡ blanks f n
  unfolding blanks
  blanks_same zero h = refl
  blanks_same (suc n) h = rw (others n (λ e. omega arith), blanks_same n (omega arith))

  pub blanks_fall : f p ≡ false → g p ≡ true → (n : ℕ) → p < n → blanks g n + 1 ≡ blanks f n
  unfolding blanks
  blanks_fall off on zero l = absurd (omega arith)
  blanks_fall off on (suc n) l =
      ⊎_elim
      (λ (e : n ≡ p).
      let here : lack (g n) ≡ 0 = ap (λ x. lack (g x)) e ∙ ap lack on in
      let was : lack (f n) ≡ 1 = ap (λ x. lack (f x)) e ∙ ap lack off in
      omega (arith, here, was, blanks_same n (omega arith)))
      (λ (ne : n ≡ p → ⊥).
      let here : lack (g n) ≡ lack (f n) = ap lack (others n ne) in
      omega (arith, here, blanks_fall off on n (omega arith)))
      (cases_eq n p)

pub blanks_some : (f : ℕ → Bool) (p : ℕ) → f p ≡ false → (n : ℕ) → p < n → 0 < blanks f n
unfolding blanks
blanks_some f p off zero l = absurd (omega arith)
blanks_some f p off (suc n) l =
    ⊎_elim
    (λ (e : n ≡ p). let was : lack (f n) ≡ 1 = ap (λ x. lack (f x)) e ∙ ap lack off in omega (arith, was))
    (λ (ne : n ≡ p → ⊥). omega (arith, blanks_some f p off n (omega arith)))
    (cases_eq n p)
