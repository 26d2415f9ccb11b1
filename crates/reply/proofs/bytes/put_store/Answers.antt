use Rattle.std.proofs.Common.{vec_items}
use Rattle.reply.proofs.Appending.{stored_none, stored_more, stored_after, stored_all}
use Rattle.reply.proofs.bytes.put_store.Goals as goal

pub returns : goal.returns
returns c =
    record {
      rest = stored_after (vec_items c.args.out.now) (vec_items c.put_number.new.out) (vec_items c.loop.out) c.args.reader.now c.number-n.new.self c.loop.reader c.number-n.result c.loop.counter
          c.number-n.ensures.value c.number-n.ensures.rest c.loop-test.false c.loop.invariant;
      bytes = stored_all (vec_items c.args.out.now) (vec_items c.put_number.new.out) (vec_items c.loop.out) c.args.reader.now c.number-n.new.self c.loop.reader c.number-n.result c.loop.counter
          c.number-n.ensures.value c.number-n.ensures.rest c.loop-test.false c.loop.invariant c.in_ok-put_number.ensures;
    }
