use Rattle.std.proofs.Common.{◌≡◌, ℕ, ◌+◌, ◌*◌, length, take, ap, ◌∙◌, arith}
use Rattle.machine.proofs.Rows.{length_part}
use Rattle.symbols.specs.View.{in_row}
use Rattle.symbols.proofs.Pairing.{pair_none, pair_more, pair_all}
use Rattle.symbols.proofs.select.pair_up.Goals as goal

pub loop-i-init : goal.loop-i-init
loop-i-init c = pair_none c.args.out.now c.args.bits.now c.args.at

pub loop-i-preserved : goal.loop-i-preserved
loop-i-preserved c =
    let n : ℕ = length c.args.bits.now in
    pair_more c.loop-i.invariant (omega (arith, length_part (in_row c.args.out.now) (c.args.at + n) n)) (omega arith) (omega arith)

pub returns : goal.returns
returns c =
    let n : ℕ = length c.args.bits.now in
    let end : c.args.at + 2 * n ≡ c.args.at + 2 * c.loop-i.i = omega arith in
    ap (λ k. take k c.loop-i.out) end ∙ pair_all c.loop-i.invariant (omega (arith, length_part (in_row c.args.out.now) (c.args.at + n) n))
