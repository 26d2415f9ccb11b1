use Rattle.std.proofs.Common.{◌≡◌, ◌+◌, ◌*◌, ◌≤◌, length, set, subst, arith}
use Rattle.std.proofs.lemmas.List.{length-set}
use Rattle.compare.specs.Pieces.{Laid, store_words}
use Rattle.compare.proofs.Laying.{laid_more, store_laid, store_laid_end}
use Rattle.compare.proofs.headers.write_store.Goals as goal

pub loop-i-preserved : goal.loop-i-preserved
loop-i-preserved c =
    let fits : c.args.at + store_words c.args.sizes.now ≤ length c.loop-i.room = omega (arith, c.requires.room, c.loop-i.auto.room, length-set c.args.room.now c.args.at (length c.args.sizes.now)) in
    laid_more c.args.sizes.now _ c.loop-i.room c.args.at c.args.contents c.loop-i.i c.loop-i.rest ((c.args.at + 1) + 2 * c.loop-i.i) c.requires.narrow fits c.loop-i.invariant (omega arith) c.loop-i-test.true

pub returns-clause-store : goal.returns-clause-store
returns-clause-store c =
    let before = set c.args.room.now c.args.at (length c.args.sizes.now) in
    let all : c.loop-i.i ≡ length c.args.sizes.now = omega arith in
    let laid = subst (λ i. Laid c.args.sizes.now before c.loop-i.room c.args.at c.args.contents i c.loop-i.rest) all c.loop-i.invariant in
    store_laid c.args.sizes.now before c.loop-i.room c.args.at c.args.contents c.loop-i.rest c.requires.narrow laid

pub returns-clause-end : goal.returns-clause-end
returns-clause-end c =
    let before = set c.args.room.now c.args.at (length c.args.sizes.now) in
    let all : c.loop-i.i ≡ length c.args.sizes.now = omega arith in
    let laid = subst (λ i. Laid c.args.sizes.now before c.loop-i.room c.args.at c.args.contents i c.loop-i.rest) all c.loop-i.invariant in
    store_laid_end c.args.sizes.now before c.loop-i.room c.args.at c.args.contents c.loop-i.rest c.requires.narrow laid
