use Rattle.std.proofs.Common.{◌≡◌, ◌+◌, length, Ok, sym, ap, ◌∙◌, subst, arith}
use Rattle.reach.specs.Model.{Leads}
use Rattle.reach.specs.Ended.{table_words}
use Rattle.reach.specs.Sought.{Sought}
use Rattle.reach.proofs.Ends.{row_after, word_after}
use Rattle.reach.proofs.exhaustive.sweep.Goals as goal

pub returns-in-Some-clause-answer : goal.returns-in-Some-clause-answer
returns-in-Some-clause-answer g c =
    let m = g.S.System.model c.args.system.now in
    let front = c.search.new.front in
    let message = c.search.new.message in
    let at : c.table_words.result + c.args.gap ≡ length c.search.new.front = omega (arith, c.search.auto.front, c.split_at_mut-front.ensures.front_len) in
    let found = subst (λ o. Sought m c.args.work.now.left c.search.new.work.left message (Ok o)) c.in-Some.is c.in_ok-search.ensures.answer in (
      subst (Leads m c.in-Some.start) (sym (row_after front message (c.table_words.result + c.args.gap) at)) found.0,
      ap (λ t. t + c.args.gap) (c.table_words.ensures ∙ ap table_words c.count-count.ensures.value),
      omega (arith, word_after front message (c.table_words.result + c.args.gap) at, found.1),
    )
