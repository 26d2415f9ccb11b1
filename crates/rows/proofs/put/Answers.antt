use Rattle.std.proofs.Common.{◌+◌, ◌*◌, ◌/◌, ◌%◌, ◌^◌, ◌<◌, get_or, sym, ◌∙◌, arith}
use lib.Bits.{bit_and, bit_or}
use Rattle.std.proofs.lemmas.List.{get_or-set_other}
use Rattle.std.proofs.lemmas.Bool.{cond-true, cond-false}
use Rattle.std.specs.Int.{w64, bit_not}
use Rattle.std.proofs.lemmas.Nat.Bits.{bit_at_set_same, bit_at_set_other, bit_at_clear_same, bit_at_clear_other}
use Rattle.rows.proofs.Bits.{bit_set_same, bit_set_other}
use Rattle.rows.proofs.put.Goals as goal

pub returns-then-on : goal.returns-then-on
returns-then-on c =
    let room = c.args.room.now in
    let base = c.args.base in
    let k = c.args.k in
    let low : c.args.k % 64 < 64 = omega arith in
    let w = get_or room (base + k / 64) 0 in
    let v = bit_or w (1 * 2 ^ (k % 64) % 2 ^ 64) in
    record {
      here = bit_set_same room base k v c.requires ∙ bit_at_set_same w64 w (k % 64) low ∙ sym (cond-true c.args.on 1 0 c.if-on.true);
      others = bit_set_other room base k v c.requires (λ i _. bit_at_set_other w64 w (k % 64) low i);
      rest = λ i ne. get_or-set_other room (base + k / 64) i v 0 ne;
    }

pub returns-else-on : goal.returns-else-on
returns-else-on c =
    let room = c.args.room.now in
    let base = c.args.base in
    let k = c.args.k in
    let low : c.args.k % 64 < 64 = omega arith in
    let w = get_or room (base + k / 64) 0 in
    let v = bit_and w (bit_not w64 (1 * 2 ^ (k % 64) % 2 ^ 64)) in
    record {
      here = bit_set_same room base k v c.requires ∙ bit_at_clear_same w64 w (k % 64) low ∙ sym (cond-false c.args.on 1 0 c.if-on.false);
      others = bit_set_other room base k v c.requires (bit_at_clear_other w64 w (k % 64) low);
      rest = λ i ne. get_or-set_other room (base + k / 64) i v 0 ne;
    }
