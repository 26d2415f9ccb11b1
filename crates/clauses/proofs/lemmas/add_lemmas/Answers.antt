use Rattle.std.proofs.lemmas.Result.{err_from_is_err_and}
use Rattle.clauses.proofs.Growing.{grown_read, grown_more}
use Rattle.clauses.proofs.Reading.{read_number}
use Rattle.clauses.proofs.lemmas.add_lemmas.Goals as goal

pub loop-init : goal.loop-init
loop-init c =
    let e = c.in-Some.ensures in
    grown_read _ _ _ _ _ _ (read_number _ _ e.same e.read.1.0 e.read.1.1)

pub returns-in_err-add_lemma : goal.returns-in_err-add_lemma
returns-in_err-add_lemma c =
    let p = err_from_is_err_and c.from_residual.result c.from_residual.ensures.1 in
    rw (p.1, p.2) (grown_more _ _ _ _ _ _ _ _ _ _ _ _ _ _ c.loop.invariant c.in_err-add_lemma.ensures)

pub loop-preserved : goal.loop-preserved
loop-preserved c = grown_more _ _ _ _ _ _ _ _ _ _ _ _ _ _ c.loop.invariant c.in_ok-add_lemma.ensures
