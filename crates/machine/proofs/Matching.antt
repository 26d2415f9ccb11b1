-- The loop that holds select keys to patterns. Assumes nothing.
use Rattle.std.proofs.Common.{◌≡◌, ℕ, suc, Bool, true, false, ◌&&◌, List, [], ◌∷◌, map, length, vec_items, Vec, sym, refl, ap, ◌∙◌, subst}
use Rattle.std.specs.declared.alloc.Global.{Global}
use Rattle.std.proofs.lemmas.List.{nil_from_length}
use Rattle.std.proofs.lemmas.Bool.{and_parts, eqb-true, false≢true}
use Rattle.model.specs.Parser as M
use Rattle.model.specs.Refusal.{every, expr_width, named_expr, sized_expr, sized_patterns}
use Rattle.machine.specs.Sound.{Proper}
use Rattle.syntax.specs.View.{expr_of, pattern_of}
use Rattle.syntax.specs.declared.ast.Expr.{Expr}
use Rattle.syntax.specs.declared.ast.Pattern.{Pattern}
use Rattle.syntax.specs.declared.ast.Pattern.TheVariants.{Exactly, Any}

-- there is a key for each pattern
pub as_many : (ns : List ℕ) (keys : List Expr) (ps : List Pattern) → sized_patterns ns (map expr_of keys) (map pattern_of ps) ≡ true → length keys ≡ length ps
as_many ns [] [] m = refl
as_many ns [] (p ∷ ps) m = absurd (false≢true m)
as_many ns (e ∷ es) [] m = absurd (false≢true m)
as_many ns (e ∷ es) (Exactly bs ∷ ps) m = ap suc (as_many ns es ps (and_parts _ _ m).1)
as_many ns (e ∷ es) (Any ∷ ps) m = ap suc (as_many ns es ps m)

module _ (ns : List ℕ) (s : M.Store) where
  -- what is left matches just if all does, and is right
  pub record Left (matches : Bool) (keys : List Expr) (ps : List Pattern) : Type 0 where
    pub same : M.matches s (map expr_of keys) (map pattern_of ps) ≡ matches
    pub named : every (named_expr ns) (map expr_of keys) ≡ true
    pub sized : every (sized_expr ns) (map expr_of keys) ≡ true
    pub wide : sized_patterns ns (map expr_of keys) (map pattern_of ps) ≡ true

  module _ {matches : Bool} {keys : List Expr} {pats : List Pattern} {e : Expr} {es : List Expr} {p : Pattern} {ps : List Pattern}
      (left : Left matches keys pats) (keys_are : keys ≡ e ∷ es) (pats_are : pats ≡ p ∷ ps) where
    here : Left matches (e ∷ es) (p ∷ ps)
    here = subst (λ ys. Left matches (e ∷ es) ys) pats_are (subst (λ xs. Left matches xs pats) keys_are left)

    pub proper : Proper ns (expr_of e)
    proper = record { named = (and_parts _ _ here.named).0; sized = (and_parts _ _ here.sized).0 }

    pub passes_any : p ≡ Any → Left matches es ps
    passes_any is =
        let h = subst (λ q. Left matches (e ∷ es) (q ∷ ps)) is here in
        record { same = h.same; named = (and_parts _ _ h.named).1; sized = (and_parts _ _ h.sized).1; wide = h.wide }

    module _ {bs : Vec ℕ Global} (is : p ≡ Exactly bs) where
      exact : Left matches (e ∷ es) (Exactly bs ∷ ps)
      exact = subst (λ q. Left matches (e ∷ es) (q ∷ ps)) is here

      pub as_wide : length (vec_items bs) ≡ expr_width ns (expr_of e)
      as_wide = eqb-true _ _ (and_parts _ _ (and_parts _ _ exact.wide).0).1

      pub passes : M.same_bits (M.value s (expr_of e)) (vec_items bs) ≡ true → Left matches es ps
      passes t =
          record {
            same = sym (ap (λ b. b && M.matches s (map expr_of es) (map pattern_of ps)) t) ∙ exact.same;
            named = (and_parts _ _ exact.named).1;
            sized = (and_parts _ _ exact.sized).1;
            wide = (and_parts _ _ exact.wide).1;
          }

      pub fails : M.same_bits (M.value s (expr_of e)) (vec_items bs) ≡ false → false ≡ matches
      fails t = sym (ap (λ b. b && M.matches s (map expr_of es) (map pattern_of ps)) t) ∙ exact.same

  pub all_passed : {matches : Bool} {keys : List Expr} {pats : List Pattern} → Left matches keys pats → length pats ≡ 0 → true ≡ matches
  all_passed {matches} {keys} {pats} left is =
      let none : keys ≡ [] = nil_from_length keys (as_many ns keys pats left.wide ∙ is) in
      sym (ap (λ xs. M.matches s (map expr_of xs) (map pattern_of pats)) none) ∙ left.same
