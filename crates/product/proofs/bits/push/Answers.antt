use Rattle.std.proofs.Common.{◌+◌, ap, arith}
use Rattle.product.proofs.Steps.{push_shift, push_below}
use Rattle.product.proofs.bits.push.Goals as goal

pub overflow_add-result-2 : goal.overflow_add-result-2
overflow_add-result-2 c = omega (arith, push_shift c.args.held c.args.bit c.requires.within c.requires.bit, push_below c.args.held c.args.bit c.requires.within c.requires.bit, c.requires.small)

pub returns : goal.returns
returns c = ap (λ n. c.args.buffer + n) (push_shift c.args.held c.args.bit c.requires.within c.requires.bit)
