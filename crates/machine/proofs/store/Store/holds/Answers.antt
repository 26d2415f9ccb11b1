use Rattle.std.proofs.Common.{length, sym, refl, ◌∙◌}
use Rattle.rows.specs.Row.{bit_in}
use Rattle.machine.proofs.Rows.{length_part, part_at}
use Rattle.machine.proofs.Same.{same_more, same_apart, same_all}
use Rattle.machine.proofs.store.Store.holds.Goals as goal

pub returns-then-get-bit : goal.returns-then-get-bit
returns-then-get-bit c =
    let f = bit_in c.args.self.now.words in
    let n = length c.args.bits.now in
    same_apart _ _ c.loop-i.i (length_part f c.args.k n) c.loop-i.invariant c.loop-i-test.true
    (c.get.ensures ∙ sym (part_at f c.args.k n c.loop-i.i c.loop-i-test.true)) refl c.if-get-bit.true

pub loop-i-preserved : goal.loop-i-preserved
loop-i-preserved c =
    let f = bit_in c.args.self.now.words in
    let n = length c.args.bits.now in
    same_more _ _ c.loop-i.i (length_part f c.args.k n) c.loop-i.invariant c.loop-i-test.true
    (c.get.ensures ∙ sym (part_at f c.args.k n c.loop-i.i c.loop-i-test.true)) refl c.if-get-bit.false

pub returns : goal.returns
returns c = same_all _ _ c.loop-i.i (length_part (bit_in c.args.self.now.words) c.args.k (length c.args.bits.now)) c.loop-i.invariant c.loop-i-test.false
