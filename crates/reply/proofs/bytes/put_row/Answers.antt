use Rattle.std.proofs.Common.{vec_items}
use Rattle.reply.proofs.Appending.{bits_none, bits_more, row_all}
use Rattle.reply.proofs.bytes.put_row.Goals as goal

pub loop-k-preserved : goal.loop-k-preserved
loop-k-preserved c =
    bits_more (vec_items c.put_number.new.out) (vec_items c.loop-k.out) (vec_items c.push.new.self) c.args.row.now.words.now c.args.row.now.len c.loop-k.k c.bit.result
    c.loop-k-test.true c.bit.ensures c.in_ok-push.ensures.items c.loop-k.invariant

pub returns : goal.returns
returns c =
    row_all (vec_items c.args.out.now) (vec_items c.put_number.new.out) (vec_items c.loop-k.out) c.args.row.now.words.now c.args.width c.args.row.now.len c.loop-k.k
    c.loop-k-test.false c.in_ok-put_number.ensures c.loop-k.invariant
