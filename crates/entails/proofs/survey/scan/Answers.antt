use Rattle.std.proofs.Common.{rules, ◌≡◌, ◌+◌, ◌/◌, ◌<◌, ◌≤◌, length, get_or, ap, ◌∙◌, arith}
use Rattle.std.proofs.lemmas.Iterator.{cases_from_any, YieldsList-from_slice}
use Rattle.entails.proofs.Parts.{get_or-part, length_part}
use Rattle.entails.proofs.survey.scan.Goals as goal

pub returns-then-any-clause-layout : goal.returns-then-any-clause-layout
returns-then-any-clause-layout c =
    let numbers = c.args.numbers.now in
    let s = c.args.s in
    let n = get_or numbers s 0 in
    let is = c.in-Some.ensures.1 in
    let some = cases_from_any _ _ _ (λ l. c.args.positions ≤ l / 2) (λ l. Unit {0}) c.any.ensures.ran (YieldsList-from_slice c.in-Some.clause.now cc) (λ x q k. search rules) (λ x q k. search rules) in
    let any = rw c.if-any.true at some in
    let lt : any.0 < n = omega (arith, any.1, c.in-Some.ensures.0, length_part numbers (s + 1) n (omega (arith, c.in-Some.ensures.0)), ap length is) in
    let same : get_or c.in-Some.clause.now any.0 0 ≡ get_or numbers (s + 1 + any.0) 0 = ap (λ ls. get_or ls any.0 0) is ∙ get_or-part numbers (s + 1) n any.0 lt in
    (c.in-Some.ensures.0, (any.0, lt, omega (arith, any.2 0, same)))
