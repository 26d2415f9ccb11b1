-- Writes behind premises and goal leave what follows.
use Rattle.std.proofs.Common.{◌≡◌, ℕ, ◌+◌, ◌<◌, ◌≤◌, Bool, List, length, get_or, take, sym, ap, ◌∙◌, subst, arith}
use Rattle.std.proofs.lemmas.List.{get_or-take, length-take-le}
use Rattle.clauses.specs.Clauses.{Holds, Sat, All, Follows, clause_at, premises}
use Rattle.entails.specs.Answers.{Refuted}
use Rattle.entails.specs.Layouts.{Front, Below, Laid}
use Rattle.entails.proofs.Parts.{length_part, get_or-part}
use Rattle.entails.proofs.Says.{all_each, all_from}

-- the same front
pub front_take : (n : ℕ) (xs ys : List ℕ) → take n ys ≡ take n xs → Front n xs ys
front_take n xs ys e = λ k l. sym (get_or-take n ys k 0 l) ∙ ap (λ zs. get_or zs k 0) e ∙ get_or-take n xs k 0 l

pub front_more : (n : ℕ) (xs ys zs : List ℕ) → Front n xs ys → Front n ys zs → Front n xs zs
front_more n xs ys zs g h = λ k l. h k l ∙ g k l

front_back : (n : ℕ) (xs ys : List ℕ) → Front n xs ys → Front n ys xs
front_back n xs ys h = λ k l. sym (h k l)

below_moved : (xs ys : List ℕ) (limit s : ℕ) → Front limit xs ys → Below xs limit s → Below ys limit s
below_moved xs ys limit s front below = let e : get_or ys s 0 ≡ get_or xs s 0 = front s (omega arith) in omega (arith, e)

sat_moved : (v : ℕ → Bool) (xs ys : List ℕ) (limit s : ℕ) → Front limit xs ys → limit ≤ length xs → limit ≤ length ys → Below xs limit s → Sat v (clause_at xs s) → Sat v (clause_at ys s)
sat_moved v xs ys limit s front lx ly below sat =
    let n_is : get_or ys s 0 ≡ get_or xs s 0 = front s (omega arith) in
    let lt : sat.0 < get_or xs s 0 = omega (arith, sat.1, length_part xs (s + 1) (get_or xs s 0) (omega arith)) in
    let same : get_or ys (s + 1 + sat.0) 0 ≡ get_or xs (s + 1 + sat.0) 0 = front (s + 1 + sat.0) (omega arith) in
    let here : sat.0 < get_or ys s 0 = omega (arith, n_is, lt) in
    let in_ys : sat.0 < length (clause_at ys s) = omega (arith, here, length_part ys (s + 1) (get_or ys s 0) (omega (arith, n_is))) in
    (sat.0, in_ys, subst (λ x. Holds v x) (get_or-part xs (s + 1) (get_or xs s 0) sat.0 lt ∙ sym same ∙ sym (get_or-part ys (s + 1) (get_or ys s 0) sat.0 here)) sat.2)

-- numbers xs and starts ss, before; ys and ts, after
module _ (xs ys ss ts : List ℕ) (used count goal : ℕ) (laid : Laid xs used ss count goal) (front : Front used xs ys) (places : Front count ss ts) (long : used ≤ length ys) (many : count ≤ length ts) where
  pub laid_moved : Laid ys used ts count goal
  laid_moved = record {
    low = long;
    room = many;
    each = λ c l. subst (λ s. Below ys used s) (sym (places c l)) (below_moved xs ys used (get_or ss c 0) front (laid.each c l));
    last = below_moved xs ys used goal front laid.last;
  }

  pub goal_stands : goal + get_or ys goal 0 < length ys
  goal_stands = omega (arith, laid_moved.low, laid_moved.last)

  all_moved : (v : ℕ → Bool) → All v (premises xs ss count) → All v (premises ys ts count)
  all_moved v all = all_from v ys (take count ts) (λ c l.
      let lt : c < count = omega (arith, length-take-le count ts laid_moved.room) in
      let lt' : c < length (take count ss) = omega (arith, length-take-le count ss laid.room) in
      subst (λ s. Sat v (clause_at ys s)) (sym (get_or-take count ts c 0 lt ∙ places c lt))
      (sat_moved v xs ys used (get_or ss c 0) front laid.low laid_moved.low (laid.each c lt)
      (subst (λ s. Sat v (clause_at xs s)) (get_or-take count ss c 0 lt) (all_each v xs (take count ss) all c lt'))))

  all_unmoved : (v : ℕ → Bool) → All v (premises ys ts count) → All v (premises xs ss count)
  all_unmoved v all = all_from v xs (take count ss) (λ c l.
      let lt : c < count = omega (arith, length-take-le count ss laid.room) in
      let lt' : c < length (take count ts) = omega (arith, length-take-le count ts laid_moved.room) in
      subst (λ s. Sat v (clause_at xs s)) (sym (get_or-take count ss c 0 lt))
      (sat_moved v ys xs used (get_or ss c 0) (front_back used xs ys front) laid_moved.low laid.low (below_moved xs ys used (get_or ss c 0) front (laid.each c lt))
      (subst (λ s. Sat v (clause_at ys s)) (get_or-take count ts c 0 lt ∙ places c lt) (all_each v ys (take count ts) all c lt'))))

  pub follows_unmoved : Follows (premises ys ts count) (clause_at ys goal) → Follows (premises xs ss count) (clause_at xs goal)
  follows_unmoved f v all = sat_moved v ys xs used goal (front_back used xs ys front) laid_moved.low laid.low laid_moved.last (f v (all_moved v all))

  pub refuted_unmoved : (v : ℕ → Bool) → Refuted (premises ys ts count) (clause_at ys goal) v → Refuted (premises xs ss count) (clause_at xs goal) v
  refuted_unmoved v h = (all_unmoved v h.0, λ sat. h.1 (sat_moved v xs ys used goal front laid.low laid_moved.low laid.last sat))
