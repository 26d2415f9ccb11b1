use Rattle.std.proofs.Common.{◌++◌, string_bytes, ap, ◌∙◌, arith}
use Rattle.reply.specs.Front.{row_of}
use Rattle.reply.specs.Printed.{digits}
use Rattle.reply.proofs.Showing.{from_empty, char_pushed, listed_first, listed_more, listed_text, listed_after}
use Rattle.reply.proofs.text.store_text.Goals as goal

pub loop-preserved : goal.loop-preserved
loop-preserved c =
    let comma = c.in_ok-push.ensures in
    listed_more c.args.reader.now (string_bytes c.loop.text) (string_bytes c.push.new.self) (string_bytes c.push_bits-in-loop.new.text) c.loop.reader c.row-in-loop.new.self c.number-n.result c.loop.counter
    c.loop-test.true (char_pushed (string_bytes c.loop.text) (string_bytes c.push.new.self) _ 44 comma.ascii (omega arith) comma.bytes)
    (c.in_ok-push_bits-2.ensures ∙ ap (λ bs. string_bytes c.push.new.self ++ digits bs) c.row-in-loop.ensures.row) c.row-in-loop.ensures.rest c.loop.invariant
