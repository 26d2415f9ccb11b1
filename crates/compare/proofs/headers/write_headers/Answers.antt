use Rattle.std.proofs.Common.{◌≡◌, ◌+◌, sym, subst}
use Rattle.model.specs.Refusal.{sum}
use Rattle.machine.specs.View.{sizes_in}
use Rattle.rows.specs.Row.{store_in, store_end}
use Rattle.theory.specs.Number.{number_bits, parted}
use Rattle.compare.specs.Pieces.{Narrow, Outside, store_words}
use Rattle.compare.proofs.Heading.{first_narrow, second_narrow, headed}
use Rattle.compare.proofs.headers.write_headers.Goals as goal

pub write_store-requires-clause-narrow : goal.write_store-requires-clause-narrow
write_store-requires-clause-narrow c = subst Narrow (sym c.deref.ensures.value) (second_narrow c.args.product.now)

pub write_store-requires-2-clause-narrow : goal.write_store-requires-2-clause-narrow
write_store-requires-2-clause-narrow c = subst Narrow (sym c.deref-2.ensures.value) (first_narrow c.args.product.now)

pub returns : goal.returns
returns c =
    let s = c.args.product.now in
    let at = c.args.at in
    let before = c.args.room.now in
    let middle = c.write_store.new.room in
    let room = c.write_store-2.new.room in
    let x = c.headers-first.result.0 in
    let y = c.headers-first.result.1 in
    let n = sizes_in c.args.product.now.second.side.machine in
    let first_words = c.header_words.ensures.value in
    let second_sizes = c.deref.ensures.value in
    let first_sizes = c.deref-2.ensures.value in
    headed s c.args.pair at before middle room x y c.headers-first.ensures.first c.headers-first.ensures.second
    (subst (λ w. store_in middle (at + w) ≡ parted n (number_bits (sum n) y)) first_words (subst (λ ns. store_in middle (at + c.header_words.result) ≡ parted ns (number_bits (sum ns) y)) second_sizes c.write_store.ensures.store))
    (subst (λ w. store_end middle (at + w) ≡ (at + w) + store_words n) first_words
    (subst (λ ns. store_end middle (at + c.header_words.result) ≡ (at + c.header_words.result) + store_words ns) second_sizes c.write_store.ensures.end))
    (subst (λ w. Outside n (at + w) before middle) first_words (subst (λ ns. Outside ns (at + c.header_words.result) before middle) second_sizes c.write_store.ensures.others))
    (subst (λ ns. store_in room at ≡ parted ns (number_bits (sum ns) x)) first_sizes c.write_store-2.ensures.store)
    (subst (λ ns. store_end room at ≡ at + store_words ns) first_sizes c.write_store-2.ensures.end)
    (subst (λ ns. Outside ns at middle room) first_sizes c.write_store-2.ensures.others)
