-- The loop that writes what must hold for a case, and what it comes to. Assumes nothing.
use Rattle.std.proofs.Common.{◌≡◌, ℕ, ◌+◌, ◌-◌, ◌*◌, ◌/◌, ◌≤◌, true, false, ◌&&◌, eqb, List, [], ◌∷◌, ◌++◌, map, length, take, drop, IfSome, Some, None, vec_items, Option, Vec, sym, refl, ap, ◌∙◌, subst, ap₂, arith}
use Rattle.std.specs.declared.alloc.Global.{Global}
use Rattle.std.proofs.lemmas.List.{nil_from_length, append_assoc, append-nil, take-take, take-append-le, drop-take, drop_at, length-take-le}
use Rattle.std.proofs.lemmas.Bool.{and_parts, eqb-true}
use Rattle.model.specs.Parser as M
use Rattle.model.specs.Refusal.{every, expr_width, named_expr, sized_expr, sized_patterns}
use Rattle.syntax.specs.View.{expr_of, pattern_of}
use Rattle.syntax.specs.declared.ast.Expr.{Expr}
use Rattle.syntax.specs.declared.ast.Pattern.{Pattern}
use Rattle.syntax.specs.declared.ast.Pattern.TheVariants.{Exactly, Any}
use Rattle.machine.specs.Sound.{Proper}
use Rattle.machine.proofs.Values.{value_long}
use Rattle.symbols.specs.Symbol.{sense, row_sense, store_sense, paired, condition_of, holds}
use Rattle.symbols.proofs.Natural.{value-map}

-- from `at` on, with `start` before it
module _ (ns : List ℕ) (s : M.Store) (start : List ℕ) (at : ℕ) where
  -- what is written so far, and the condition of what is left, make the whole
  pub record Left (out whole : List ℕ) (next : ℕ) (keys : List Expr) (ps : List Pattern) : Type 0 where
    pub same : take next out ++ condition_of s (map expr_of keys) (map pattern_of ps) ≡ whole
    pub kept : take at out ≡ start
    pub named : every (named_expr ns) (map expr_of keys) ≡ true
    pub sized : every (sized_expr ns) (map expr_of keys) ≡ true
    pub wide : sized_patterns ns (map expr_of keys) (map pattern_of ps) ≡ true
    pub reached : at ≤ next
    pub room : next ≤ length out

  module _ {out whole : List ℕ} {next : ℕ} {keys : List Expr} {pats : List Pattern} {e : Expr} {es : List Expr} {p : Pattern} {ps : List Pattern}
      (left : Left out whole next keys pats) (keys_are : keys ≡ e ∷ es) (pats_are : pats ≡ p ∷ ps) where
    here : Left out whole next (e ∷ es) (p ∷ ps)
    here = subst (λ ys. Left out whole next (e ∷ es) ys) pats_are (subst (λ xs. Left out whole next xs pats) keys_are left)

    pub proper : Proper ns (expr_of e)
    proper = record { named = (and_parts _ _ here.named).0; sized = (and_parts _ _ here.sized).0 }

    pub passes_any : p ≡ Any → Left out whole next es ps
    passes_any is =
        let h = subst (λ q. Left out whole next (e ∷ es) (q ∷ ps)) is here in
        record { same = h.same; kept = h.kept; named = (and_parts _ _ h.named).1; sized = (and_parts _ _ h.sized).1; wide = h.wide; reached = h.reached; room = h.room }

    module _ {bs : Vec ℕ Global} (is : p ≡ Exactly bs) where
      exact : Left out whole next (e ∷ es) (Exactly bs ∷ ps)
      exact = subst (λ q. Left out whole next (e ∷ es) (q ∷ ps)) is here

      pub as_wide : length (vec_items bs) ≡ expr_width ns (expr_of e)
      as_wide = eqb-true _ _ (and_parts _ _ (and_parts _ _ exact.wide).0).1

      pub wrote : {out' bits : List ℕ} {next' : ℕ} → take next' out' ≡ take next out ++ paired (M.value s (expr_of e)) bits → bits ≡ vec_items bs → next ≤ next' → next' ≤ length out'
          → Left out' whole next' es ps
      wrote {out'} {bits} {next'} w bits_are on r =
          let far : at ≤ next = left.reached in
          let within : next ≤ length out = left.room in
          record {
            same = ap (λ xs. xs ++ condition_of s (map expr_of es) (map pattern_of ps)) (w ∙ ap (λ x. take next out ++ paired (M.value s (expr_of e)) x) bits_are)
                ∙ append_assoc (take next out) (paired (M.value s (expr_of e)) (vec_items bs)) _ ∙ exact.same;
            kept = sym (take-take at next' out' (omega arith)) ∙ ap (take at) w
                ∙ take-append-le at (take next out) (paired (M.value s (expr_of e)) bits) (omega (arith, length-take-le next out within)) ∙ take-take at next out far ∙ left.kept;
            named = (and_parts _ _ exact.named).1;
            sized = (and_parts _ _ exact.sized).1;
            wide = (and_parts _ _ exact.wide).1;
            reached = omega arith;
            room = r;
          }

  condition_none : (es : List M.Expr) → condition_of s es [] ≡ []
  condition_none [] = refl
  condition_none (e ∷ es) = refl

  pub all_written : {out whole : List ℕ} {next : ℕ} {keys : List Expr} {pats : List Pattern} → Left out whole next keys pats → length pats ≡ 0 → take next out ≡ whole
  all_written {out} {whole} {next} {keys} {pats} left is =
      let none : pats ≡ [] = nil_from_length pats is in
      sym (append-nil (take next out)) ∙ sym (ap (λ xs. take next out ++ condition_of s (map expr_of keys) (map pattern_of xs)) none ∙ ap (λ xs. take next out ++ xs) (condition_none (map expr_of keys))) ∙ left.same

pub room_left : (next n l : ℕ) → next ≤ l → n ≤ (l - next) / 2 → next + 2 * n ≤ l
room_left next n l a b = omega arith

-- what was written behind a place
pub behind : (before after xs : List ℕ) (at n : ℕ) → at ≤ length before → at ≤ n → take n after ≡ take at before ++ xs → take (n - at) (drop at after) ≡ xs
behind before after xs at n within far wrote =
    let e : at + (n - at) ≡ n = omega arith in
    sym (drop-take at (n - at) after) ∙ ap (λ k. drop at (take k after)) e ∙ ap (drop at) wrote ∙ drop_at (take at before) xs at (length-take-le at before within)

pub behind_when : (P : List ℕ → Type 0) (before after xs : List ℕ) (at : ℕ) → at ≤ length before → (r : Option ℕ) → IfSome r (λ n. (at ≤ n) × (n ≤ length after))
    → IfSome r (λ n. take n after ≡ take at before ++ xs) → P xs → IfSome r (λ n. P (take (n - at) (drop at after)))
behind_when P before after xs at within None end wrote held = tt
behind_when P before after xs at within (Some n) end wrote held = subst P (sym (behind before after xs at n within end.0 wrote)) held

paired-holds : (ν : ℕ → ℕ) (xs bs rest : List ℕ) → length xs ≡ length bs → holds ν (paired xs bs ++ rest) ≡ (M.same_bits (row_sense ν xs) bs && holds ν rest)
paired-holds ν [] [] rest l = refl
paired-holds ν [] (b ∷ bs) rest l = absurd (omega arith)
paired-holds ν (x ∷ xs) [] rest l = absurd (omega arith)
paired-holds ν (x ∷ xs) (b ∷ bs) rest l =
    let inner = paired-holds ν xs bs rest (omega arith) in
    elim (eqb (sense ν x) b) as (λ t. (t && holds ν (paired xs bs ++ rest)) ≡ ((t && M.same_bits (row_sense ν xs) bs) && holds ν rest)) [ true ↦ inner | false ↦ refl ]

-- whatever bits the symbols stand for, the condition holds just if those match
pub condition_matches : (ν : ℕ → ℕ) (ns : List ℕ) (s : M.Store) → map length s ≡ ns → (es : List M.Expr) (ps : List M.Pattern)
    → every (named_expr ns) es ≡ true → every (sized_expr ns) es ≡ true → sized_patterns ns es ps ≡ true → holds ν (condition_of s es ps) ≡ M.matches (store_sense ν s) es ps
condition_matches ν ns s sizes [] ps n w m = refl
condition_matches ν ns s sizes (e ∷ es) [] n w m = refl
condition_matches ν ns s sizes (e ∷ es) (M.any ∷ ps) n w m = condition_matches ν ns s sizes es ps (and_parts _ _ n).1 (and_parts _ _ w).1 m
condition_matches ν ns s sizes (e ∷ es) (M.exactly bs ∷ ps) n w m =
    let a = and_parts _ _ n in
    let b = and_parts _ _ w in
    let c = and_parts _ _ m in
    let long : length bs ≡ expr_width ns e = eqb-true _ _ (and_parts _ _ c.0).1 in
    paired-holds ν (M.value s e) bs (condition_of s es ps) (value_long s ns sizes e a.0 b.0 ∙ sym long)
    ∙ ap₂ (λ x y. M.same_bits x bs && y) (sym (value-map (sense ν) refl refl ns s e b.0)) (condition_matches ν ns s sizes es ps a.1 b.1 c.1)
