use Rattle.std.proofs.Common.{◌≡◌, ◌+◌, ◌-◌, Ok, refl, subst, arith}
use Rattle.reach.specs.Ended.{Ended}
use Rattle.product.specs.Pair.{pair_model}
use Rattle.product.specs.View.{comparison_of}
use Rattle.compare.specs.Headed.{header_room}
use Rattle.compare.proofs.Telling.{safe_told, leads_told}
use Rattle.compare.proofs.pairs.sweep_pairs.Goals as goal

pub returns-in_default-found : goal.returns-in_default-found
returns-in_default-found c =
    let s = c.args.product.now in
    let gap = c.header_words.result + c.header_words-2.result in
    let safe = subst (λ o. Ended (pair_model (comparison_of s)) c.args.work c.sweep-found.new.work.left gap c.sweep-found.new.room (Ok o)) c.in_default-found.is c.in-Ok.ensures.answer in
    (c.in-Ok.ensures.spent, refl, safe_told s safe)

pub returns : goal.returns
returns c =
    let s = c.args.product.now in
    let gap = c.header_words.result + c.header_words-2.result in
    let found = subst (λ o. Ended (pair_model (comparison_of s)) c.args.work c.sweep-found.new.work.left gap c.sweep-found.new.room (Ok o)) c.in-Some.is c.in-Ok.ensures.answer in
    let reached = c.in-Some.reached in
    let after_is : c.in-Some.reached.at ≡ (c.in-Some.reached.at - (c.header_words.result + c.header_words-2.result)) + header_room c.args.product.now =
    omega (arith, found.1, c.header_words.ensures.value, c.header_words-2.ensures.value) in
    (c.in-Ok.ensures.spent, refl, leads_told s reached.start (reached.at - gap) reached.at c.sweep-found.new.room c.write_headers.new.room after_is found.0 c.write_headers.ensures)
