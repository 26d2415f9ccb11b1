use Rattle.std.proofs.Common.{◌≡◌, ℕ, List, [], ◌∷◌, drop, vec_items, sym, ap, ◌∙◌}
use Rattle.std.proofs.lemmas.Result.{IfOk-weaker}
use Rattle.format.specs.Written.{number, answer}
use Rattle.reply.specs.Appends.{budget, difference}
use Rattle.reply.specs.View.{answer_of}
use Rattle.reply.proofs.Appending.{both, tagged}
use Rattle.reply.proofs.Numbers.{number-bool_byte}
use Rattle.reply.proofs.Parts.{difference-drop}
use Rattle.reply.proofs.bytes.put_answer.Goals as goal

pub returns-in_ok-put_number-in-Verdict : goal.returns-in_ok-put_number-in-Verdict
returns-in_ok-put_number-in-Verdict c =
    IfOk-weaker c.put_number-in-Verdict-2.result _ _
    (λ _ q. tagged 1 _ (vec_items c.args.out.now) (vec_items c.put_number-in-Verdict.new.out) (vec_items c.put_number-in-Verdict-2.new.out) _ c.in_ok-put_number-in-Verdict.ensures q
    (ap (λ l. 1 ∷ l) (number-bool_byte c.in-Verdict.accepted []) ∙ ap (λ x. answer (answer_of c.args.room.now x)) (sym c.in-Verdict.is)))
    c.put_number-in-Verdict-2.ensures

pub returns-in_ok-put_number-in-Alike : goal.returns-in_ok-put_number-in-Alike
returns-in_ok-put_number-in-Alike c =
    IfOk-weaker c.put_budget.result _ _
    (λ _ q. tagged 2 (budget c.in-Alike.work c.in-Alike.left) (vec_items c.args.out.now) (vec_items c.put_number-in-Alike.new.out) (vec_items c.put_budget.new.out) _ c.in_ok-put_number-in-Alike.ensures q
    (ap (λ x. answer (answer_of c.args.room.now x)) (sym c.in-Alike.is)))
    c.put_budget.ensures

pub returns-in_ok-put_difference-in-Unlike : goal.returns-in_ok-put_difference-in-Unlike
returns-in_ok-put_difference-in-Unlike c =
    let w : ℕ = c.in-Unlike.work in
    let r : ℕ = c.in-Unlike.left in
    let part : List ℕ = c.new.result in
    let whole_part : difference part (budget w r []) ≡ difference (drop c.in-Unlike.at c.args.room.now) (budget w r []) = ap (λ p. difference p (budget w r [])) c.new.ensures in
    IfOk-weaker c.put_budget-in-Unlike.result _ _
    (λ _ q. tagged 3 (λ rest. difference part (budget w r rest)) (vec_items c.args.out.now) (vec_items c.put_number-in-Unlike.new.out) (vec_items c.put_budget-in-Unlike.new.out) _ c.in_ok-put_number-in-Unlike.ensures
    (both (difference part) (budget w r) (vec_items c.put_number-in-Unlike.new.out) (vec_items c.put_difference.new.out) (vec_items c.put_budget-in-Unlike.new.out) c.in_ok-put_difference-in-Unlike.ensures q)
    (ap (λ l. 3 ∷ l) (whole_part ∙ difference-drop c.args.room.now c.in-Unlike.at (budget w r [])) ∙ ap (λ x. answer (answer_of c.args.room.now x)) (sym c.in-Unlike.is)))
    c.put_budget-in-Unlike.ensures

pub returns-in_ok-put_number-in-Neither : goal.returns-in_ok-put_number-in-Neither
returns-in_ok-put_number-in-Neither c =
    IfOk-weaker c.put_budget-in-Neither.result _ _
    (λ _ q. tagged 4 (budget c.in-Neither.work c.in-Neither.left) (vec_items c.args.out.now) (vec_items c.put_number-in-Neither.new.out) (vec_items c.put_budget-in-Neither.new.out) _ c.in_ok-put_number-in-Neither.ensures q
    (ap (λ x. answer (answer_of c.args.room.now x)) (sym c.in-Neither.is)))
    c.put_budget-in-Neither.ensures
