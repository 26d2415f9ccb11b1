-- What a check asks of a parser and of a state, over the lists of the code and in its order. Assumes nothing.
use Rattle.std.proofs.Common.{◌≡◌, ℕ, ◌&&◌, ltb, leb, List, map, length, vec_items, refl, ap, ◌∙◌}
use lib.ListN.{length-map}
use Rattle.std.proofs.Math.Bool.{and_assoc}
use Rattle.std.specs.List.{list_all}
use Rattle.model.specs.Parser.{ops_width}
use Rattle.model.specs.Refusal.{every, named, named_op, named_expr, named_target, named_state, narrow, shallow, shallow_op, shallow_state, sized, sized_op, sized_expr, sized_patterns, sized_state, taking}
use Rattle.syntax.specs.View.{op_of, expr_of, pattern_of, case_of, target_of, state_of, parser_of}
use Rattle.syntax.specs.declared.ast.State.{State}
use Rattle.syntax.specs.declared.ast.Parser.{Parser}
use Rattle.checks.proofs.Tested.{every_mapped, narrow_of}

pub named-state_of : (ns : List ℕ) (n : ℕ) (q : State)
    → named_state ns n (state_of q)
    ≡ (list_all (λ o. named_op ns (op_of o)) (vec_items q.ops)
    && (list_all (λ e. named_expr ns (expr_of e)) (vec_items q.keys)
    && (list_all (λ k. named_target n (case_of k).target) (vec_items q.cases) && named_target n (target_of q.otherwise))))
named-state_of ns n q =
    rw (every_mapped (named_op ns) op_of (vec_items q.ops), every_mapped (named_expr ns) expr_of (vec_items q.keys), every_mapped (λ k. named_target n k.target) case_of (vec_items q.cases))
    (and_assoc (list_all (λ o. named_op ns (op_of o)) (vec_items q.ops)) (list_all (λ e. named_expr ns (expr_of e)) (vec_items q.keys)) (list_all (λ k. named_target n (case_of k).target) (vec_items q.cases) && named_target n (target_of q.otherwise)))

pub shallow-state_of : (q : State)
    → shallow_state (state_of q) ≡ (list_all (λ o. shallow_op (op_of o)) (vec_items q.ops) && list_all (λ e. shallow (expr_of e)) (vec_items q.keys))
shallow-state_of q = rw (every_mapped shallow_op op_of (vec_items q.ops), every_mapped shallow expr_of (vec_items q.keys))

pub sized-state_of : (ns : List ℕ) (q : State)
    → sized_state ns (state_of q)
    ≡ (list_all (λ o. sized_op ns (op_of o)) (vec_items q.ops)
    && (list_all (λ e. sized_expr ns (expr_of e)) (vec_items q.keys)
    && list_all (λ k. sized_patterns ns (map expr_of (vec_items q.keys)) (map pattern_of (vec_items k.patterns))) (vec_items q.cases)))
sized-state_of ns q =
    rw (
      every_mapped (sized_op ns) op_of (vec_items q.ops),
      every_mapped (sized_expr ns) expr_of (vec_items q.keys),
      every_mapped (λ k. sized_patterns ns (map expr_of (vec_items q.keys)) k.patterns) case_of (vec_items q.cases),
    )
    refl

-- the same of a whole parser
module _ (p : Parser) where
  pub named_of : named (parser_of p) ≡ list_all (λ q. named_state (vec_items p.sizes) (length (vec_items p.states)) (state_of q)) (vec_items p.states)
  named_of =
      ap (λ n. every (named_state (vec_items p.sizes) n) (map state_of (vec_items p.states))) (length-map (vec_items p.states) state_of)
      ∙ every_mapped (named_state (vec_items p.sizes) (length (vec_items p.states))) state_of (vec_items p.states)

  pub sized_of : sized (parser_of p) ≡ list_all (λ q. sized_state (vec_items p.sizes) (state_of q)) (vec_items p.states)
  sized_of = every_mapped (sized_state (vec_items p.sizes)) state_of (vec_items p.states)

  pub taking_of : taking (parser_of p) ≡ list_all (λ q. ltb 0 (ops_width (vec_items p.sizes) (state_of q).ops)) (vec_items p.states)
  taking_of = every_mapped (λ q. ltb 0 (ops_width (vec_items p.sizes) q.ops)) state_of (vec_items p.states)

  pub all_narrow_of : narrow (parser_of p) ≡ list_all (λ q. leb (ops_width (vec_items p.sizes) (state_of q).ops) 4096) (vec_items p.states)
  all_narrow_of = narrow_of (vec_items p.sizes) (vec_items p.states)
