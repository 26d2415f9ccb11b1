-- Values have their widths, ops keep the sizes of headers, and a select leads to what is there. Assumes nothing.
use Rattle.std.proofs.Common.{◌≡◌, ℕ, zero, suc, ◌+◌, ◌-◌, ◌<◌, ◌≤◌, true, false, cond, ◌&&◌, eqb, ltb, leb, List, [], ◌∷◌, length, get_or, take, drop, set, refl, ap, ◌∙◌, not-suc-le-zero, arith}
use Rattle.std.proofs.lemmas.List.{length-append, length-drop, length-take-le}
use Rattle.std.proofs.lemmas.Bool.{false≢true, and_parts, and_from, eqb-true, eq-eqb, ltb-true}
use Rattle.model.specs.Parser.{Bits, Expr, header, bits, slice, join, Op, extract, assign, Target, Case, Store, value, ops_width, run_ops, matches, select}
use Rattle.model.specs.Refusal.{every, are_bits, named_expr, named_op, named_target, expr_width, sized_expr, sized_op, store_fits}
use Rattle.model.proofs.Every.{every_take, every_drop, every_append}

-- a row of bits of this length
abbrev Row : Bits → ℕ → Type 0
Row bs n = (length bs ≡ n) × (are_bits bs ≡ true)

header_fits : (ns : List ℕ) (s : Store) → store_fits ns s ≡ true → (h : ℕ) → h < length ns → Row (get_or s h []) (get_or ns h 0)
header_fits [] s ok h l = absurd (not-suc-le-zero l)
header_fits (n ∷ ns) [] ok h l = absurd (false≢true ok)
header_fits (n ∷ ns) (b ∷ s) ok zero l = let p = and_parts _ _ (and_parts _ _ ok).0 in (eqb-true _ _ p.0, p.1)
header_fits (n ∷ ns) (b ∷ s) ok (suc h) l = header_fits ns s (and_parts _ _ ok).1 h (omega arith)

set-fits : (ns : List ℕ) (s : Store) → store_fits ns s ≡ true → (h : ℕ) (bs : Bits) → Row bs (get_or ns h 0) → store_fits ns (set s h bs) ≡ true
set-fits [] [] ok h bs row = refl
set-fits [] (b ∷ s) ok h bs row = absurd (false≢true ok)
set-fits (n ∷ ns) [] ok h bs row = absurd (false≢true ok)
set-fits (n ∷ ns) (b ∷ s) ok zero bs row = and_from _ _ (and_from _ _ (eq-eqb _ _ row.0) row.1) (and_parts _ _ ok).1
set-fits (n ∷ ns) (b ∷ s) ok (suc h) bs row = let p = and_parts _ _ ok in and_from _ _ p.0 (set-fits ns s p.1 h bs row)

pub value-fits : (ns : List ℕ) (s : Store) → store_fits ns s ≡ true → (e : Expr) → named_expr ns e ≡ true → sized_expr ns e ≡ true
    → (length (value s e) ≡ expr_width ns e) × (are_bits (value s e) ≡ true)
value-fits ns s ok (header h) names sizes = header_fits ns s ok h (ltb-true h (length ns) names)
value-fits ns s ok (bits bs) names sizes = (refl, (and_parts (are_bits bs) (leb (length bs) 4096) sizes).0)
value-fits ns s ok (slice e lo hi) names sizes =
    let w = and_parts (sized_expr ns e && leb lo hi) (ltb hi (expr_width ns e)) sizes in
    let v = and_parts (sized_expr ns e) (leb lo hi) w.0 in
    let inner = value-fits ns s ok e names v.0 in
    let long : suc hi ≤ length (value s e) = omega (arith, ltb-true hi (expr_width ns e) w.1, inner.0) in (
      length-drop lo (take (suc hi) (value s e)) ∙ ap (λ n. n - lo) (length-take-le (suc hi) (value s e) long),
      every_drop _ (take (suc hi) (value s e)) (every_take _ (value s e) inner.1 (suc hi)) lo,
    )
value-fits ns s ok (join d e) names sizes =
    let n = and_parts (named_expr ns d) (named_expr ns e) names in
    let w = and_parts (sized_expr ns d && sized_expr ns e) (leb (expr_width ns d + expr_width ns e) 4096) sizes in
    let v = and_parts (sized_expr ns d) (sized_expr ns e) w.0 in
    let one = value-fits ns s ok d n.0 v.0 in
    let two = value-fits ns s ok e n.1 v.1 in
    (omega (arith, length-append (value s d) (value s e), one.0, two.0), every_append _ (value s d) (value s e) one.1 two.1)

pub run_ops-fits : (ns : List ℕ) (os : List Op) (bs : Bits) (s : Store) → every (named_op ns) os ≡ true → every (sized_op ns) os ≡ true
    → are_bits bs ≡ true → ops_width ns os ≤ length bs → store_fits ns s ≡ true → store_fits ns (run_ops ns os bs s) ≡ true
run_ops-fits ns [] bs s names sizes are l ok = ok
run_ops-fits ns (extract h ∷ os) bs s names sizes are l ok =
    run_ops-fits ns os (drop (get_or ns h 0) bs) (set s h (take (get_or ns h 0) bs)) (and_parts _ _ names).1 sizes
    (every_drop _ bs are (get_or ns h 0)) (omega (arith, length-drop (get_or ns h 0) bs))
    (set-fits ns s ok h (take (get_or ns h 0) bs) (length-take-le (get_or ns h 0) bs (omega arith), every_take _ bs are (get_or ns h 0)))
run_ops-fits ns (assign h e ∷ os) bs s names sizes are l ok =
    let n = and_parts _ _ names in
    let w = and_parts _ _ sizes in
    let v = and_parts (sized_expr ns e) (eqb (expr_width ns e) (get_or ns h 0)) w.0 in
    let row = value-fits ns s ok e (and_parts (ltb h (length ns)) (named_expr ns e) n.0).1 v.0 in
    run_ops-fits ns os bs (set s h (value s e)) n.1 w.1 are l (set-fits ns s ok h (value s e) (row.0 ∙ eqb-true _ _ v.1, row.1))

-- where a state leads is there
pub select-named : (n : ℕ) (s : Store) (es : List Expr) (cs : List Case) (t : Target) → every (λ c. named_target n c.target) cs ≡ true → named_target n t ≡ true
    → named_target n (select s es cs t) ≡ true
select-named n s es [] t a b = b
select-named n s es (c ∷ cs) t a b =
    let p = and_parts _ _ a in
    elim (matches s es c.patterns) as (λ f. named_target n (cond f c.target (select s es cs t)) ≡ true) [ true ↦ p.0 | false ↦ select-named n s es cs t p.1 b ]
