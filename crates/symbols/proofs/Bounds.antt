-- Symbols of positions below a bound stay below it: a map that puts 0 for all others leaves them as they are, and what leaves a store as it is leaves what ops make of it. Assumes nothing.
use Rattle.std.proofs.Common.{◌≡◌, ℕ, ◌+◌, ◌-◌, ◌<◌, ◌≤◌, true, cond, ltb, List, [], ◌∷◌, ◌++◌, map, length, get_or, sym, refl, ap, ◌∙◌, subst, ap₂, ⊎_elim, not-suc-le-zero, arith}
use Rattle.std.proofs.lemmas.List.{get_or-map, map-append}
use Rattle.std.proofs.lemmas.Bool.{cases_lt, lt-ltb, le-ltb, and_from, and_parts}
use Rattle.model.specs.Parser.{Expr, Op, Pattern, exactly, any, Store, value, run_ops}
use Rattle.model.specs.Refusal.{are_bits, every, sized_expr, sized_op, sized_patterns, sum}
use Rattle.machine.specs.Row.{part, headers}
use Rattle.symbols.specs.Symbol.{symbol, Below, paired, condition_of, are_pairs}
use Rattle.symbols.proofs.Natural.{value-map, ops_map}
use Rattle.machine.proofs.Rows.{length_part, part_at}
use Rattle.symbols.proofs.Placing.{map-part, map-headers}

-- what is not below is put to 0
abbrev clamp : ℕ → ℕ → ℕ
clamp top x = cond (ltb x (2 + top)) x 0

below_stays : (top x : ℕ) → x < 2 + top → clamp top x ≡ x
below_stays top x l = ap (λ b. cond b x 0) (lt-ltb x (2 + top) l)

stays_below : (top x : ℕ) → clamp top x ≡ x → x < 2 + top
stays_below top x e =
    ⊎_elim (λ (l : x < 2 + top). l) (λ (l : 2 + top ≤ x). let z : 0 ≡ x = sym (ap (λ b. cond b x 0) (le-ltb x (2 + top) l)) ∙ e in absurd (omega arith)) (cases_lt x (2 + top))

zero_stays : (top : ℕ) → clamp top 0 ≡ 0
zero_stays top = below_stays top 0 (omega arith)

one_stays : (top : ℕ) → clamp top 1 ≡ 1
one_stays top = below_stays top 1 (omega arith)

-- a list that a map leaves as it is
at_each : (g : ℕ → ℕ) (xs : List ℕ) → map g xs ≡ xs → (i : ℕ) → i < length xs → g (get_or xs i 0) ≡ get_or xs i 0
at_each g xs same i l = sym (get_or-map g xs i 0 0 l) ∙ ap (λ ys. get_or ys i 0) same

at_header : (g f : ℕ → ℕ) (k : ℕ) (ns : List ℕ) → map (map g) (headers f k ns) ≡ headers f k ns → (i : ℕ) → i < sum ns → g (f (k + i)) ≡ f (k + i)
at_header g f k [] same i l = absurd (not-suc-le-zero l)
at_header g f k (n ∷ ns) same i l =
    ⊎_elim
    (λ (h : i < n).
    let first : map g (part f k n) ≡ part f k n = cc in
    ap g (sym (part_at f k n i h)) ∙ at_each g (part f k n) first i (omega (arith, length_part f k n)) ∙ part_at f k n i h)
    (λ (h : n ≤ i).
    let rest : map (map g) (headers f (k + n) ns) ≡ headers f (k + n) ns = cc in
    let e : k + i ≡ (k + n) + (i - n) = omega arith in
    ap (λ x. g (f x)) e ∙ at_header g f (k + n) ns rest (i - n) (omega arith) ∙ ap f (sym e))
    (cases_lt i n)

module _ (top : ℕ) where
  -- rows that stay
  pub Stays : List ℕ → Type 0
  Stays xs = map (clamp top) xs ≡ xs

  pub symbols_stay : (from n : ℕ) → from + n ≤ top → Stays (part symbol from n)
  unfolding Stays
  symbols_stay from n l = map-part (clamp top) symbol symbol from from n (λ i h. below_stays top (symbol (from + i)) (omega arith))

  pub append_stays : (xs ys : List ℕ) → Stays xs → Stays ys → Stays (xs ++ ys)
  unfolding Stays
  append_stays xs ys a b = map-append (clamp top) xs ys ∙ ap₂ ◌++◌ a b

  pub stays_at : (f : ℕ → ℕ) (n : ℕ) → Stays (part f 0 n) → Below top f n
  unfolding Stays
  stays_at f n same i l =
      let e : 0 + i ≡ i = omega arith in
      subst (λ x. f x < 2 + top) e
      (stays_below top (f (0 + i)) (ap (clamp top) (sym (part_at f 0 n i l)) ∙ at_each (clamp top) (part f 0 n) same i (omega (arith, length_part f 0 n)) ∙ part_at f 0 n i l))

  -- and stores
  pub StoresStay : Store → Type 0
  StoresStay s = map (map (clamp top)) s ≡ s

  pub positions_stay : (head : ℕ) (ns : List ℕ) → head + sum ns ≤ top → StoresStay (headers symbol head ns)
  unfolding StoresStay
  positions_stay head ns l = map-headers (clamp top) symbol symbol head head ns (λ i h. below_stays top (symbol (head + i)) (omega arith))

  pub row_stays : (f : ℕ → ℕ) (ns : List ℕ) → Below top f (sum ns) → StoresStay (headers f 0 ns)
  unfolding StoresStay
  row_stays f ns below = map-headers (clamp top) f f 0 0 ns (λ i l. let e : 0 + i ≡ i = omega arith in below_stays top (f (0 + i)) (subst (λ x. f x < 2 + top) (sym e) (below i l)))

  pub stays_row : (f : ℕ → ℕ) (ns : List ℕ) → StoresStay (headers f 0 ns) → Below top f (sum ns)
  unfolding StoresStay
  stays_row f ns same i l = let e : 0 + i ≡ i = omega arith in subst (λ x. f x < 2 + top) e (stays_below top (f (0 + i)) (at_header (clamp top) f 0 ns same i l))

  pub ops_stay : (ns : List ℕ) (os : List Op) (xs : List ℕ) (s : Store) → every (sized_op ns) os ≡ true → Stays xs → StoresStay s → StoresStay (run_ops ns os xs s)
  unfolding Stays StoresStay
  ops_stay ns os xs s sized a b = sym (ops_map (clamp top) (zero_stays top) (one_stays top) ns os xs s sized) ∙ ap₂ (λ x y. run_ops ns os x y) a b

  value_stays : (ns : List ℕ) (s : Store) (e : Expr) → sized_expr ns e ≡ true → StoresStay s → Stays (value s e)
  unfolding Stays StoresStay
  value_stays ns s e sized a = sym (value-map (clamp top) (zero_stays top) (one_stays top) ns s e sized) ∙ ap (λ t. value t e) a

  -- pairs of them
  pairs_paired : (xs bs rest : List ℕ) → Stays xs → are_bits bs ≡ true → are_pairs top rest ≡ true → are_pairs top (paired xs bs ++ rest) ≡ true
  unfolding Stays
  pairs_paired [] bs rest same are more = more
  pairs_paired (x ∷ xs) [] rest same are more = more
  pairs_paired (x ∷ xs) (b ∷ bs) rest same are more =
      let here : clamp top x ≡ x = cc in
      let on : map (clamp top) xs ≡ xs = cc in
      let p = and_parts _ _ are in
      and_from _ _ (and_from _ _ (lt-ltb x (2 + top) (stays_below top x here)) p.0) (pairs_paired xs bs rest on p.1 more)

  pub pairs_condition : (ns : List ℕ) (s : Store) (es : List Expr) (ps : List Pattern) → every (sized_expr ns) es ≡ true → sized_patterns ns es ps ≡ true → StoresStay s
      → are_pairs top (condition_of s es ps) ≡ true
  pairs_condition ns s [] ps w m same = refl
  pairs_condition ns s (e ∷ es) [] w m same = refl
  pairs_condition ns s (e ∷ es) (any ∷ ps) w m same = pairs_condition ns s es ps (and_parts _ _ w).1 m same
  pairs_condition ns s (e ∷ es) (exactly bs ∷ ps) w m same =
      let a = and_parts _ _ w in
      let c = and_parts _ _ m in
      pairs_paired (value s e) bs (condition_of s es ps) (value_stays ns s e a.0 same) (and_parts _ _ c.0).0 (pairs_condition ns s es ps a.1 c.1 same)
