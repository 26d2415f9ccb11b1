use Rattle.std.proofs.Common.{◌+◌, List, ℕ, string_bytes}
use Rattle.reply.proofs.Showing.{char_pushed, digit_small, digits_none, digits_more, digits_all}
use Rattle.reply.proofs.text.push_bits.Goals as goal

pub loop-k-preserved : goal.loop-k-preserved
loop-k-preserved c =
    let words : List ℕ = c.args.row.now.words.now in
    let put = c.in_ok-push.ensures in
    let one = char_pushed (string_bytes c.loop-k.text) (string_bytes c.push.new.self) _ (48 + c.bit.result) put.ascii (digit_small words c.loop-k.k c.bit.result c.bit.ensures) put.bytes in
    digits_more (string_bytes c.loop-k.text) (string_bytes c.push.new.self) words _ c.args.row.now.len c.loop-k.k c.bit.result c.loop-k-test.true c.bit.ensures one c.loop-k.invariant
