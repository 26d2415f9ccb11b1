use Rattle.std.proofs.Common.{◌≡◌, ◌<◌, ◌≤◌, min, length, refl, ap, ◌∙◌, subst, lit<}
use Rattle.std.proofs.lemmas.Bool.{and_from, and_right, lt-ltb, le-ltb}
use Rattle.model.specs.Refusal.{fault}
use Rattle.model.specs.Request.{compare}
use Rattle.model.specs.Promise.{RightAnswer, Answered}
use Rattle.machine.specs.View.{parser_in}
use Rattle.compare.specs.Budget.{compared}
use Rattle.reply.specs.View.{answer_of}
use Rattle.syntax.specs.View.{parser_of}
use Rattle.comparing.proofs.everything.EverythingStage.settle_compare.Goals as goal

pub returns-in_default-new : goal.returns-in_default-new
returns-in_default-new c = λ q is.
    let asked = c.args.asked in
    let fine₁ = subst (λ p. fault p ≡ 0) (c.in_ok-first.ensures is.first is.first_is) c.in_ok-first.first.right in
    let second_is = c.in_ok-second.ensures is.second is.second_is in
    let fine₂ = subst (λ p. fault p ≡ 0) second_is c.in_ok-second.second.right in
    let none = subst (λ p. length p.states ≤ asked.second_start) (ap (λ k. parser_of k.parser) c.in_ok-second-2.ensures ∙ second_is) c.in_default-new.ensures in
    rw (is.is, fine₁, fine₂, and_right _ _ (le-ltb _ _ none)) (refl, lit< tt, refl)

pub returns : goal.returns
returns c = λ q is.
    let asked = c.args.asked in
    let s = c.in-Some.first in
    let t = c.in-Some-new.second in
    let answer = answer_of c.compare.new.room c.compare.result in
    let lent = min asked.room (length c.args.room.now) in
    let p_is : parser_in s.machine ≡ is.first = ap parser_in c.in-Some.ensures.0 ∙ ap (λ k. parser_of k.parser) c.in_ok-first-2.ensures ∙ c.in_ok-first.ensures is.first is.first_is in
    let q_is : parser_in t.machine ≡ is.second = ap parser_in c.in-Some-new.ensures.0 ∙ ap (λ k. parser_of k.parser) c.in_ok-second-2.ensures ∙ c.in_ok-second.ensures is.second is.second_is in
    let i_is = c.in-Some.ensures.1 in
    let j_is = c.in-Some-new.ensures.1 in
    let same : compared s t asked.work lent ≡ record { first = is.first; second = is.second; first_state = asked.first_start; second_state = asked.second_start; work = asked.work; room = lent } =
    rw (p_is, q_is, i_is, j_is) refl in
    let fine₁ : fault is.first ≡ 0 = rw (← p_is) s.machine.checked.right in
    let fine₂ : fault is.second ≡ 0 = rw (← q_is) t.machine.checked.right in
    let begins₁ : asked.first_start < length is.first.states = rw (← p_is, ← i_is) s.begins in
    let begins₂ : asked.second_start < length is.second.states = rw (← q_is, ← j_is) t.begins in
    rw is.is (
      rw (fine₁, fine₂, and_from _ _ (lt-ltb _ _ begins₁) (lt-ltb _ _ begins₂)) refl,
      subst (λ x. RightAnswer (compare x) answer) same c.compare.ensures.right,
      subst (λ x. Answered (compare x) answer) same c.compare.ensures.answers,
    )
