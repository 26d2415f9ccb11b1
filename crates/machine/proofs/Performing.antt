-- The loop that performs ops. Assumes nothing.
use Rattle.std.proofs.Common.{◌≡◌, ℕ, ◌+◌, ◌<◌, ◌≤◌, true, List, ◌∷◌, map, length, get_or, take, drop, set, sym, ap, ◌∙◌, subst, arith}
use Rattle.std.proofs.lemmas.List.{drop_all, take-take, length-drop}
use Rattle.std.proofs.lemmas.Bool.{and_parts, ltb-true, eqb-true}
use Rattle.model.specs.Parser as M
use Rattle.model.specs.Refusal.{every, named_op, named_expr, sized_op, sized_expr, expr_width}
use Rattle.syntax.specs.View.{expr_of, op_of}
use Rattle.syntax.specs.declared.ast.Expr.{Expr}
use Rattle.syntax.specs.declared.ast.Op.{Op}
use Rattle.syntax.specs.declared.ast.Op.TheVariants.{Extract, Assign}
use Rattle.model.proofs.Every.{drop_read, every_read}

-- the ops that are ahead lead to the same end, and have the bits that they take
pub record Going (ns : List ℕ) (end s : M.Store) (ops : List Op) (bs : List ℕ) (i : ℕ) : Type 0 where
  pub same : M.run_ops ns (map op_of (drop i ops)) bs s ≡ end
  pub room : M.ops_width ns (map op_of (drop i ops)) ≤ length bs

module _ (ns : List ℕ) {end s : M.Store} {ops : List Op} {bs : List ℕ} {i : ℕ} {op : Op}
    (going : Going ns end s ops bs i) (l : i < length ops) (read : op ≡ get_or ops i op) where
  -- what is ahead, once the op is known
  at_op : {o : Op} → op ≡ o → {Y : Type 0} (F : List Op → Y) → F (drop i ops) ≡ F (o ∷ drop (i + 1) ops)
  at_op is F = ap F (drop_read ops i op l read) ∙ ap (λ x. F (x ∷ drop (i + 1) ops)) is

  module _ {h : ℕ} (is : op ≡ Extract h) where
    pub extract_room : get_or ns h 0 + M.ops_width ns (map op_of (drop (i + 1) ops)) ≤ length bs
    extract_room = subst (λ n. n ≤ length bs) (at_op is (λ os. M.ops_width ns (map op_of os))) going.room

    -- n bits are taken off the front
    pub extracted : {u : M.Store} {n : ℕ} {front rest rest' : List ℕ} → n ≡ get_or ns h 0 → front ≡ take n bs → rest ≡ drop n bs → rest' ≡ rest
        → u ≡ set s h (take (get_or ns h 0) front) → Going ns end u ops rest' (i + 1)
    extracted {u} {n} {front} {rest} {rest'} size front_is rest-is rest'_is wrote =
        let m : ℕ = get_or ns h 0 in
        let all : rest' ≡ drop m bs = rest'_is ∙ rest-is ∙ ap (λ k. drop k bs) size in
        let first : take m front ≡ take m bs = ap (take m) (front_is ∙ ap (λ k. take k bs) size) ∙ take-take m m bs (omega arith) in
        subst (λ xs. Going ns end u ops xs (i + 1)) (sym all)
        (record {
          same = ap (λ v. M.run_ops ns (map op_of (drop (i + 1) ops)) (drop m bs) v) (wrote ∙ ap (set s h) first) ∙ sym (at_op is (λ os. M.run_ops ns (map op_of os) bs s)) ∙ going.same;
          room = omega (arith, extract_room, length-drop m bs);
        })

  module _ {h : ℕ} {e : Expr} (is : op ≡ Assign h e) where
    pub assigned : {u : M.Store} {rest : List ℕ} → rest ≡ bs → u ≡ set s h (M.value s (expr_of e)) → Going ns end u ops rest (i + 1)
    assigned {u} {rest} stays wrote =
        subst (λ xs. Going ns end u ops xs (i + 1)) (sym stays)
        (record {
          same = ap (λ v. M.run_ops ns (map op_of (drop (i + 1) ops)) bs v) wrote ∙ sym (at_op is (λ os. M.run_ops ns (map op_of os) bs s)) ∙ going.same;
          room = subst (λ n. n ≤ length bs) (at_op is (λ os. M.ops_width ns (map op_of os))) going.room;
        })

pub all_done : (ns : List ℕ) {end s : M.Store} {ops : List Op} {bs : List ℕ} {i : ℕ} → Going ns end s ops bs i → length ops ≤ i → s ≡ end
all_done ns {end} {s} {ops} {bs} {i} going l = sym (ap (λ os. M.run_ops ns (map op_of os) bs s) (drop_all i ops l)) ∙ going.same

-- an assign op that is right
pub record Fits (ns : List ℕ) (h : ℕ) (e : M.Expr) : Type 0 where
  pub known : h < length ns
  pub named : named_expr ns e ≡ true
  pub sized : sized_expr ns e ≡ true
  pub wide : expr_width ns e ≡ get_or ns h 0

pub assign_fits : (ns : List ℕ) (ops : List Op) → every (named_op ns) (map op_of ops) ≡ true → every (sized_op ns) (map op_of ops) ≡ true
    → {i : ℕ} {op : Op} {h : ℕ} {e : Expr} → i < length ops → op ≡ get_or ops i op → op ≡ Assign h e → Fits ns h (expr_of e)
assign_fits ns ops names sizes {i} {op} {h} {e} l read is =
    let n = and_parts _ _ (sym (ap (λ o. named_op ns (op_of o)) is) ∙ every_read (named_op ns) op_of ops names i l read) in
    let w = and_parts _ _ (sym (ap (λ o. sized_op ns (op_of o)) is) ∙ every_read (sized_op ns) op_of ops sizes i l read) in
    record { known = ltb-true h (length ns) n.0; named = n.1; sized = w.0; wide = eqb-true _ _ w.1 }
