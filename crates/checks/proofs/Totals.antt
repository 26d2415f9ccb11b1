-- A sum over all elements: of what a map gives, and by a loop that takes each from an allowance. Assumes nothing.
use Rattle.std.proofs.Common.{◌≡◌, ℕ, suc, ◌+◌, ◌<◌, ◌≤◌, List, [], ◌∷◌, map, length, get_or, drop, vec_items, sym, refl, ap, ◌∙◌, arith}
use Rattle.std.proofs.lemmas.List.{drop_more, drop_all}
use Rattle.model.specs.Parser as M
use Rattle.model.specs.Parser.{extract, assign, ops_width}
use Rattle.model.specs.Refusal.{total, parts_expr, parts_op, parts_pattern, parts_case, parts_state}
use Rattle.syntax.specs.View.{expr_of, op_of, pattern_of, case_of, state_of}
use Rattle.syntax.specs.declared.ast.Op.{Op}
use Rattle.syntax.specs.declared.ast.Case.{Case}
use Rattle.syntax.specs.declared.ast.State.{State}
use Rattle.checks.specs.Measured.{op_width}

pub total-map : {X Y : Type 0} (f : Y → ℕ) (g : X → Y) (xs : List X) → total f (map g xs) ≡ total (λ x. f (g x)) xs
total-map f g [] = refl
total-map f g (x ∷ xs) = ap (λ n. f (g x) + n) (total-map f g xs)

ops_width-total : (ns : List ℕ) (os : List M.Op) → ops_width ns os ≡ total (op_width ns) os
ops_width-total ns [] = refl
ops_width-total ns (extract h ∷ os) = ap (λ n. get_or ns h 0 + n) (ops_width-total ns os)
ops_width-total ns (assign h e ∷ os) = omega (arith, ops_width-total ns os)

pub ops_width_of : (ns : List ℕ) (os : List Op) → ops_width ns (map op_of os) ≡ total (λ o. op_width ns (op_of o)) os
ops_width_of ns os = ops_width-total ns (map op_of os) ∙ total-map (op_width ns) op_of os

-- of `all`, what the first i elements leave
module _ {X : Type 0} (f : X → ℕ) (xs : List X) (i all left : ℕ) (so_far : left + total f xs ≡ all + total f (drop i xs)) where
  one : {x : X} → i < length xs → x ≡ get_or xs i x → left + total f xs ≡ all + (f x + total f (drop (i + 1) xs))
  one {x} l is = so_far ∙ ap (λ ys. all + total f ys) (drop_more xs i x l ∙ ap (λ y. y ∷ drop (i + 1) xs) (sym is))

  pub paid_more : {x : X} (k : ℕ) → i < length xs → x ≡ get_or xs i x → k + f x ≡ left → k + total f xs ≡ all + total f (drop (i + 1) xs)
  paid_more {x} k l is paid = omega (arith, one l is)

  pub paid_short : {x : X} → i < length xs → x ≡ get_or xs i x → left < f x → all < total f xs
  paid_short {x} l is short = omega (arith, one l is)

  pub paid_all : length xs ≤ i → left + total f xs ≡ all
  paid_all l =
      let e : left + total f xs ≡ all + 0 = so_far ∙ ap (λ ys. all + total f ys) (drop_all i xs l) in
      omega arith

pub parts_case_of : (k : Case) → parts_case (case_of k) ≡ suc (total (λ p. parts_pattern (pattern_of p)) (vec_items k.patterns))
parts_case_of k = ap suc (total-map parts_pattern pattern_of (vec_items k.patterns))

pub parts_state_of : (q : State)
    → parts_state (state_of q)
    ≡ suc (total (λ o. parts_op (op_of o)) (vec_items q.ops) + (total (λ e. parts_expr (expr_of e)) (vec_items q.keys) + total (λ k. parts_case (case_of k)) (vec_items q.cases)))
parts_state_of q =
    rw (total-map parts_op op_of (vec_items q.ops), total-map parts_expr expr_of (vec_items q.keys), total-map parts_case case_of (vec_items q.cases))
