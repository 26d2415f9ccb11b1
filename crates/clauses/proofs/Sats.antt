-- Clauses that are satisfied, a literal or a clause at a time.
use Rattle.std.proofs.Common.{◌≡◌, ℕ, ◌+◌, ◌/◌, ◌%◌, ◌<◌, Bool, ◌⊎◌, List, [], ◌∷◌, ◌++◌, map, length, min, get_or, take, set, sym, refl, ap, ◌∙◌, subst, inl, inr, ⊎_elim, arith}
use Rattle.std.proofs.lemmas.List.{length-take, get_or-take, take_more_set, map_push, get_or-map, length-map, length_push, get_or_push, get_or_append_left}
use Rattle.std.proofs.lemmas.Bool.{cases_eq}
use Rattle.clauses.specs.Clauses.{bit, Holds, Sat, All, clause_at, clauses_at}
use Rattle.clauses.proofs.Signs.{holds_or}

-- with one more literal
module _ (v : ℕ → Bool) (ls : List ℕ) (l : ℕ) where
  pub sat_push : Sat v (ls ++ (l ∷ [])) → Sat v ls ⊎ Holds v l
  sat_push s =
      ⊎_elim
      (λ (same : s.0 ≡ length ls). inr (subst (λ x. Holds v x) (get_or_push ls l 0 s.0 (sym same)) s.2))
      (λ (ne : s.0 ≡ length ls → ⊥).
      let lt : s.0 < length ls = omega (arith, length_push ls l, s.1) in
      inl (s.0, lt, subst (λ x. Holds v x) (get_or_append_left ls (l ∷ []) 0 s.0 lt) s.2))
      (cases_eq s.0 (length ls))

  pub sat_up : Sat v ls → Sat v (ls ++ (l ∷ []))
  sat_up s =
      let lt : s.0 < length (ls ++ (l ∷ [])) = omega (arith, length_push ls l, s.1) in
      (s.0, lt, subst (λ x. Holds v x) (sym (get_or_append_left ls (l ∷ []) 0 s.0 s.1)) s.2)

  pub sat_last : Holds v l → Sat v (ls ++ (l ∷ []))
  sat_last h =
      let lt : length ls < length (ls ++ (l ∷ [])) = omega (arith, length_push ls l) in
      (length ls, lt, subst (λ x. Holds v x) (sym (get_or_push ls l 0 (length ls) refl)) h)

  -- the clause is denied: its next literal holds, or is assumed to be false
  pub deny_more : (P X : Type 0) → Sat v ls ⊎ P → (P → bit (v (l / 2)) ≡ l % 2 → X) → Sat v (ls ++ (l ∷ [])) ⊎ X
  deny_more P X had then =
      ⊎_elim
      (λ sat. inl (sat_up sat))
      (λ p. ⊎_elim (λ holds. inl (sat_last holds)) (λ is. inr (then p is)) (holds_or v l))
      had

pub sat_take : (v : ℕ → Bool) (n : ℕ) (ls : List ℕ) → Sat v (take n ls) → Sat v ls
sat_take v n ls s =
    let lt : s.0 < min n (length ls) = omega (arith, s.1, length-take n ls) in
    let within : s.0 < length ls = omega arith in
    (s.0, within, subst (λ x. Holds v x) (get_or-take n ls s.0 0 (omega arith)) s.2)

-- one of the premises
pub all_at : (v : ℕ → Bool) (numbers starts : List ℕ) (c : ℕ) → c < length starts → All v (clauses_at numbers starts) → Sat v (clause_at numbers (get_or starts c 0))
unfolding clauses_at
all_at v numbers starts c l all =
    let lt : c < length (map (clause_at numbers) starts) = omega (arith, length-map starts (clause_at numbers)) in
    subst (λ x. Sat v x) (get_or-map (clause_at numbers) starts c 0 [] l) (all c lt)

all_push : (v : ℕ → Bool) (cs : List (List ℕ)) (ls : List ℕ) → All v cs → Sat v ls → All v (cs ++ (ls ∷ []))
all_push v cs ls all sat k l =
    ⊎_elim
    (λ (same : k ≡ length cs). subst (λ x. Sat v x) (sym (get_or_push cs ls [] k (sym same))) sat)
    (λ (ne : k ≡ length cs → ⊥).
    let lt : k < length cs = omega (arith, length_push cs ls) in
    subst (λ x. Sat v x) (sym (get_or_append_left cs (ls ∷ []) [] k lt)) (all k lt))
    (cases_eq k (length cs))

-- one more premise
pub all_more : (v : ℕ → Bool) (numbers starts : List ℕ) (count s : ℕ) → count < length starts → All v (clauses_at numbers (take count starts)) → Sat v (clause_at numbers s) → All v (clauses_at numbers (take (count + 1) (set starts count s)))
unfolding clauses_at
all_more v numbers starts count s h all sat =
    subst (λ x. All v x)
    (sym (ap (map (clause_at numbers)) (take_more_set starts count s h) ∙ map_push (clause_at numbers) (take count starts) s))
    (all_push v (map (clause_at numbers) (take count starts)) (clause_at numbers s) all sat)
