-- The value of an expression has its width. Assumes nothing.
use Rattle.std.proofs.Common.{◌≡◌, ℕ, suc, ◌+◌, ◌-◌, ◌<◌, ◌≤◌, true, ◌&&◌, ltb, leb, List, [], map, length, get_or, take, sym, refl, ap, ◌∙◌, arith}
use Rattle.std.proofs.lemmas.List.{length-append, length-drop, length-take-le, get_or-map, length-map}
use Rattle.std.proofs.lemmas.Bool.{and_parts, ltb-true}
use Rattle.model.specs.Parser.{Expr, header, bits, slice, join, Store, value}
use Rattle.model.specs.Refusal.{expr_width, named_expr, sized_expr}

pub value_long : (s : Store) (ns : List ℕ) → map length s ≡ ns → (e : Expr) → named_expr ns e ≡ true → sized_expr ns e ≡ true → length (value s e) ≡ expr_width ns e
value_long s ns sized (header h) names widths =
    let short : length s ≡ length ns = sym (length-map s length) ∙ ap length sized in
    let l : h < length s = omega (arith, ltb-true h (length ns) names) in
    sym (get_or-map length s h [] 0 l) ∙ ap (λ xs. get_or xs h 0) sized
value_long s ns sized (bits bs) names widths = refl
value_long s ns sized (slice e lo hi) names widths =
    let w = and_parts (sized_expr ns e && leb lo hi) (ltb hi (expr_width ns e)) widths in
    let v = and_parts (sized_expr ns e) (leb lo hi) w.0 in
    let inner : length (value s e) ≡ expr_width ns e = value_long s ns sized e names v.0 in
    let long : suc hi ≤ length (value s e) = omega (arith, ltb-true hi (expr_width ns e) w.1) in
    length-drop lo (take (suc hi) (value s e)) ∙ ap (λ n. n - lo) (length-take-le (suc hi) (value s e) long)
value_long s ns sized (join d e) names widths =
    let n = and_parts (named_expr ns d) (named_expr ns e) names in
    let w = and_parts (sized_expr ns d && sized_expr ns e) (leb (expr_width ns d + expr_width ns e) 4096) widths in
    let v = and_parts (sized_expr ns d) (sized_expr ns e) w.0 in
    length-append (value s d) (value s e) ∙ cc (value_long s ns sized d n.0 v.0, value_long s ns sized e n.1 v.1)
