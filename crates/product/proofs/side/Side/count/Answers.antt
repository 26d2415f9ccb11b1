use Rattle.std.proofs.Common.{◌≡◌, ◌+◌, arith}
use Rattle.machine.specs.View.{state_count}
use Rattle.product.proofs.Exponents.{side_wide, side_many, side_count, side_few}
use Rattle.product.proofs.side.Side.count.Goals as goal

pub returns-in_err-left : goal.returns-in_err-left
returns-in_err-left c = rw c.from_residual.ensures (side_wide c.args.self.now (omega (arith, c.in_err-left.ensures)))

pub returns-then-targets-left : goal.returns-then-targets-left
returns-then-targets-left c =
    let is : c.states-targets.result + 2 ≡ 2 + state_count c.args.self.now.machine = omega (arith, c.states-targets.ensures) in
    side_many c.args.self.now _ is (omega (arith, c.in_ok-left.ensures)) c.if-targets-left.true

pub returns : goal.returns
returns c =
    let is : c.states-targets.result + 2 ≡ 2 + state_count c.args.self.now.machine = omega (arith, c.states-targets.ensures) in
    let whole : c.args.self.now.header_bits + c.args.self.now.buffer_bits + c.in_ok-left.left ≡ 60 = omega (arith, c.in_ok-left.ensures) in
    let count = side_count c.args.self.now c.in_ok-left.left is whole c.if-targets-left.false in
    (count, omega (arith, count, side_few c.args.self.now c.in_ok-left.left is whole c.if-targets-left.false))
