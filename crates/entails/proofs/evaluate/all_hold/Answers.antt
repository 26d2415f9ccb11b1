use Rattle.std.proofs.Common.{rules, arith}
use Rattle.std.proofs.lemmas.Iterator.{cases_from_all, YieldsList-from_slice}
use Rattle.clauses.specs.Clauses.{Sat, clause_at}
use Rattle.entails.specs.Answers.{says}
use Rattle.entails.proofs.Says.{all_from}
use Rattle.entails.proofs.evaluate.all_hold.Goals as goal

pub returns : goal.returns
returns c = λ yes.
    let p = c.args.premises.now in
    let v = says c.args.value.now in
    let each = cases_from_all _ _ _ (λ s. Sat v (clause_at p.numbers.now s)) (λ s. Unit {0}) c.all.ensures.ran (YieldsList-from_slice p.starts.now cc) (λ x q k. search rules) (λ x q k. tt) in
    let all = rw yes at each in
    all_from v p.numbers.now p.starts.now (λ k l. all k 0 (omega arith) l)
