use Rattle.std.proofs.Common.{◌+◌, ◌*◌, arith}
use Rattle.clauses.proofs.Spending.{spent_both, mul_more}
use Rattle.clauses.proofs.Trails.{kept_both}
use Rattle.clauses.proofs.hints.run_hints.Goals as goal

pub returns-in_err-hint-clause-kept : goal.returns-in_err-hint-clause-kept
returns-in_err-hint-clause-kept c = kept_both _ _ _ c.loop-c.invariant.0 c.hint.ensures.kept

pub loop-c-preserved : goal.loop-c-preserved
loop-c-preserved c =
    let m = c.args.premises.now.most in
    let k = c.loop-c.c-index in
    let e = c.in_ok-hint.ensures in (
      kept_both _ _ _ c.loop-c.invariant.0 e.kept,
      λ v fits all. e.after v (c.loop-c.invariant.1 v fits all) all,
      spent_both _ _ _ (k * m) m ((k + 1) * m) _ _ _ c.loop-c.invariant.2 e.spent (omega (arith, mul_more k m)) (λ o. absurd o),
    )
