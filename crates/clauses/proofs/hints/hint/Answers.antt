use Rattle.std.proofs.Common.{sym, subst}
use Rattle.clauses.specs.Clauses.{Sat}
use Rattle.clauses.proofs.Sats.{all_at}
use Rattle.clauses.proofs.hints.hint.Goals as goal

pub returns-in-Dead-clause-after : goal.returns-in-Dead-clause-after
returns-in-Dead-clause-after c = λ v fits all.
    let e = c.in-Some.ensures in
    c.in-Dead.ensures v fits (subst (λ x. Sat v x) (sym e.1.0) (all_at v _ _ c.args.c e.0 all))

pub returns-in_ok-push-in-One-clause-after : goal.returns-in_ok-push-in-One-clause-after
returns-in_ok-push-in-One-clause-after c = λ v fits all.
    let e = c.in-Some.ensures in
    c.in_ok-push-in-One.ensures.after v fits (c.in-One.ensures.1 v fits (subst (λ x. Sat v x) (sym e.1.0) (all_at v _ _ c.args.c e.0 all)))
