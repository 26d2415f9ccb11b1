use Rattle.std.proofs.Common.{◌≡◌, refl, sym, ap, subst, ◌∙◌}
use Rattle.clauses.specs.Clauses.{All, Sat, clause_at, clauses_at}
use Rattle.entails.specs.Answers.{says}
use Rattle.entails.proofs.evaluate.refutes.Goals as goal

pub returns-then-all_hold : goal.returns-then-all_hold
returns-then-all_hold c = λ no.
    let s = c.args.search.now in
    let p = c.first-premises.ensures in
    let v = says c.args.room.now.value.now in
    let goal_is : c.unwrap-goal.result.now ≡ clause_at s.numbers.now s.goal = (rw c.unwrap-goal.ensures at c.list_at.ensures).1 ∙ ap (λ xs. clause_at xs s.goal) p.numbers in (
      subst (λ ss. All v (clauses_at s.numbers.now ss)) p.starts (subst (λ xs. All v (clauses_at xs c.first-premises.result.starts.now)) p.numbers (c.if-all_hold.ensures refl)),
      λ sat. let yes = c.satisfied.ensures.1 (subst (λ ls. Sat v ls) (sym goal_is) sat) in let bad = rw yes at no in cc,
    )
