-- A test of each element of a list in std's word, and of two lists together. Assumes nothing.
use Rattle.std.proofs.Common.{◌≡◌, ℕ, suc, Bool, true, false, ◌&&◌, List, [], ◌∷◌, map, length, eqb, leb, max, vec_items, Vec, sym, refl, ap, ◌∙◌, arith}
use Rattle.std.proofs.Math.Dec.{eqb-suc-suc, eqb-suc-zero, eqb-zero-suc}
use Rattle.std.proofs.lemmas.Bool.{and_parts}
use Rattle.std.specs.List.{list_all, zip}
use Rattle.std.specs.declared.alloc.Global.{Global}
use Rattle.model.specs.Parser.{ops_width}
use Rattle.model.specs.Refusal.{are_bits, every, expr_width, store_fits, sized_expr, sized_patterns, widest}
use Rattle.model.proofs.Every.{every_map}
use Rattle.syntax.specs.View.{expr_of, pattern_of, state_of}
use Rattle.syntax.specs.declared.ast.Expr.{Expr}
use Rattle.syntax.specs.declared.ast.Pattern.{Pattern}
use Rattle.syntax.specs.declared.ast.Pattern.TheVariants.{Exactly, Any}
use Rattle.syntax.specs.declared.ast.State.{State}
use Rattle.checks.specs.Paired.{header_fits, sized_pattern}

pub every_is : {X : Type 0} (f : X → Bool) (xs : List X) → every f xs ≡ list_all f xs
every_is f [] = refl
every_is f (x ∷ xs) = ap (λ b. f x && b) (every_is f xs)

-- of what a map gives
pub every_mapped : {X Y : Type 0} (f : Y → Bool) (g : X → Y) (xs : List X) → every f (map g xs) ≡ list_all (λ x. f (g x)) xs
every_mapped f g xs = every_map f g xs ∙ every_is (λ x. f (g x)) xs

-- with the test of the lengths first
lengths_first : (a r : Bool) (n m : ℕ) → (a && (eqb n m && r)) ≡ (eqb (suc n) (suc m) && (a && r))
lengths_first true r n m = ap (λ l. l && r) (sym (eqb-suc-suc n m))
lengths_first false r n m = sym (never (eqb (suc n) (suc m)))
  where
    never : (l : Bool) → (l && false) ≡ false
    never true = refl
    never false = refl

-- a store fits header by header
pub store_fits_of : (ns : List ℕ) (bs : List (Vec ℕ Global)) → store_fits ns (map vec_items bs) ≡ (eqb (length ns) (length bs) && list_all (λ p. header_fits p.0 (vec_items p.1)) (zip ns bs))
store_fits_of [] [] = refl
store_fits_of [] (b ∷ bs) = sym (ap (λ l. l && true) (eqb-zero-suc (length bs)))
store_fits_of (n ∷ ns) [] = sym (ap (λ l. l && true) (eqb-suc-zero (length ns)))
store_fits_of (n ∷ ns) (b ∷ bs) = ap (λ t. header_fits n (vec_items b) && t) (store_fits_of ns bs) ∙ lengths_first (header_fits n (vec_items b)) _ (length ns) (length bs)

-- where keys are sized, a state's patterns are so key by key
pub sized_patterns_of : (ns : List ℕ) (es : List Expr) (ps : List Pattern) → list_all (λ e. sized_expr ns (expr_of e)) es ≡ true
    → sized_patterns ns (map expr_of es) (map pattern_of ps) ≡ (eqb (length es) (length ps) && list_all (λ p. sized_pattern ns (expr_of p.0) (pattern_of p.1)) (zip es ps))
sized_patterns_of ns [] [] k = refl
sized_patterns_of ns [] (p ∷ ps) k = sym (ap (λ l. l && true) (eqb-zero-suc (length ps)))
sized_patterns_of ns (e ∷ es) [] k = sym (ap (λ l. l && true) (eqb-suc-zero (length es)))
sized_patterns_of ns (e ∷ es) (Any ∷ ps) k =
    sized_patterns_of ns es ps (and_parts (sized_expr ns (expr_of e)) (list_all (λ e. sized_expr ns (expr_of e)) es) k).1 ∙ lengths_first true _ (length es) (length ps)
sized_patterns_of ns (e ∷ es) (Exactly bs ∷ ps) k =
    let h = and_parts (sized_expr ns (expr_of e)) (list_all (λ e. sized_expr ns (expr_of e)) es) k in
    rw (sized_patterns_of ns es ps h.1, h.0) (lengths_first (are_bits (vec_items bs) && eqb (length (vec_items bs)) (expr_width ns (expr_of e))) _ (length es) (length ps))

-- none takes too many just if the widest does not
narrower : (a b : ℕ) → leb (max a b) 4096 ≡ (leb a 4096 && leb b 4096)
narrower a b = grind arith

pub narrow_of : (ns : List ℕ) (qs : List State) → leb (widest ns (map state_of qs)) 4096 ≡ list_all (λ q. leb (ops_width ns (state_of q).ops) 4096) qs
narrow_of ns [] = refl
narrow_of ns (q ∷ qs) = narrower (ops_width ns (state_of q).ops) (widest ns (map state_of qs)) ∙ ap (λ b. leb (ops_width ns (state_of q).ops) 4096 && b) (narrow_of ns qs)
