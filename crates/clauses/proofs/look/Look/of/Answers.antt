use Rattle.std.proofs.Common.{get_or, take, Some, sym, subst}
use Rattle.std.proofs.lemmas.List.{take_more, take_all}
use Rattle.clauses.specs.Known.{Resolved, Looked}
use Rattle.clauses.proofs.look.Look.of.Goals as goal

pub loop-l-preserved : goal.loop-l-preserved
loop-l-preserved c =
    let clause = c.args.clause.now in
    let i = c.loop-l.l-index in
    subst (λ x. Looked c.args.known.now x c.or-says.result) (sym (take_more clause i 0 c.loop-l-test.true))
    (c.or-says.ensures c.args.known.now (take i clause) (get_or clause i 0) (sym c.from-l.ensures.1)
    (subst (λ x. Resolved c.args.known.now.rep.now c.args.known.now.value.now x (Some c.in-Some.found)) c.from-l.ensures.0 c.in-Some.ensures)
    c.loop-l.invariant)

pub returns : goal.returns
returns c = subst (λ x. Looked c.args.known.now x c.loop-l.says) (take_all c.loop-l.l-index c.args.clause.now c.loop-l-test.false) c.loop-l.invariant
