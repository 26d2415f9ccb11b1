use Rattle.std.proofs.Common.{◌/◌, Some, subst}
use Rattle.clauses.specs.Known.{Resolved, Looked}
use Rattle.clauses.proofs.Signs.{bit_same, bit_apart}
use Rattle.clauses.proofs.Looks.{join_known, join_first, join_again}
use Rattle.clauses.proofs.look.Look.or.Goals as goal

pub returns-in-Known : goal.returns-in-Known
returns-in-Known c = λ k ls l sign r h.
    join_known k ls l c.args.negated sign c.in-Known.b (bit_same _ _ c.if-b-negated.true) (subst (λ x. Resolved k.rep.now k.value.now (l / 2) (Some x)) c.in-Known.is r) c.args.self h

pub returns-in-Dead : goal.returns-in-Dead
returns-in-Dead c = λ k ls l sign r h.
    join_first k ls l c.args.negated sign c.in-Open.q (subst (λ x. Resolved k.rep.now k.value.now (l / 2) (Some x)) c.in-Open.is r) (subst (λ x. Looked k ls x) c.in-Dead.is h)

pub returns-in-One : goal.returns-in-One
returns-in-One c = λ k ls l sign r h.
    join_again k ls l c.args.negated sign c.in-One.position c.in-Open.q c.in-One.value c.if-position-q.true (bit_apart _ _ c.if-value-negated.true)
    (subst (λ x. Resolved k.rep.now k.value.now (l / 2) (Some x)) c.in-Open.is r)
    (subst (λ x. Looked k ls x) c.in-One.is h)
