-- The pigeonhole principle: of n + 1 numbers below n two are equal.
use Rattle.std.proofs.Common.{◌≡◌, ℕ, zero, suc, ◌-◌, ◌<◌, ◌≤◌, cond, ltb, ◌⊎◌, ap, ◌∙◌, inl, inr, not-suc-le-zero, arith}
use Rattle.std.proofs.lemmas.Bool.{cases_eq, cases_lt, cond-true, cond-false, lt-ltb, le-ltb}

-- one of the first k values is v, or none is
sought : (f : ℕ → ℕ) (v k : ℕ) → ((i : ℕ) × ((i < k) × (f i ≡ v))) ⊎ ((i : ℕ) → i < k → f i ≡ v → ⊥)
sought f v zero = inr (λ i l e. not-suc-le-zero l)
sought f v (suc k) =
    elim (sought f v k) [
      | inl found ↦ inl (found.0, (omega (arith, found.1.0), found.1.1))
      | inr none ↦ elim (cases_eq (f k) v) [
        | inl e ↦ inl (k, (omega arith, e))
        | inr ne ↦ inr (λ i l e. elim (cases_lt i k) [
          | inl less ↦ none i less e
          | inr more ↦ ne (let same : k ≡ i = omega arith in ap f same ∙ e)
        ])
      ]
    ]

-- v is taken out of the numbers, and those above it move down
unfoldable without : ℕ → ℕ → ℕ
without v x = cond (ltb v x) (x - 1) x

without_above : (v x : ℕ) → v < x → without v x ≡ x - 1
unfolding without
without_above v x l = cond-true (ltb v x) (x - 1) x (lt-ltb v x l)

without_under : (v x : ℕ) → x ≤ v → without v x ≡ x
unfolding without
without_under v x l = cond-false (ltb v x) (x - 1) x (le-ltb v x l)

without_lt : (n v x : ℕ) → v < suc n → x < suc n → (x ≡ v → ⊥) → without v x < n
without_lt n v x lv lx ne =
    elim (cases_lt v x) [ inl more ↦ omega (arith, without_above v x more) | inr less ↦ omega (arith, without_under v x less) ]

without_injective : (v x y : ℕ) → (x ≡ v → ⊥) → (y ≡ v → ⊥) → without v x ≡ without v y → x ≡ y
without_injective v x y nx ny e =
    elim (cases_lt v x) [
      | inl more ↦ elim (cases_lt v y) [
        | inl more' ↦ omega (arith, without_above v x more, without_above v y more')
        | inr less' ↦ omega (arith, without_above v x more, without_under v y less')
      ]
      | inr less ↦ elim (cases_lt v y) [
        | inl more' ↦ omega (arith, without_under v x less, without_above v y more')
        | inr less' ↦ omega (arith, without_under v x less, without_under v y less')
      ]
    ]

pub pigeons : (n : ℕ) (f : ℕ → ℕ) → ((i : ℕ) → i ≤ n → f i < n) → (i : ℕ) × ((j : ℕ) × ((i < j) × (j ≤ n) × (f i ≡ f j)))
pigeons zero f below = absurd (not-suc-le-zero (below 0 (omega arith)))
pigeons (suc n) f below =
    let v : ℕ = f (suc n) in
    elim (sought f v (suc n)) [
      | inl found ↦ (found.0, (suc n, (found.1.0, (omega arith), found.1.1)))
      | inr none ↦
          let rest : (i : ℕ) × ((j : ℕ) × ((i < j) × (j ≤ n) × (without v (f i) ≡ without v (f j)))) =
          pigeons n (λ i. without v (f i)) (λ i l. without_lt n v (f i) (below (suc n) (omega arith)) (below i (omega arith)) (none i (omega arith)))
          in
          let i : ℕ = rest.0 in
          let j : ℕ = rest.1.0 in
          let before : i < j = rest.1.1.0 in
          let within : j ≤ n = rest.1.1.1 in
          (i, (j, (before, (omega arith), without_injective v (f i) (f j) (none i (omega arith)) (none j (omega arith)) rest.1.1.2)))
    ]
