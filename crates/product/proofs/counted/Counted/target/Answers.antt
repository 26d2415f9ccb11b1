use Rattle.std.proofs.Common.{◌∙◌, arith}
use Rattle.product.proofs.Exponents.{states_few, headers-narrow, buffer_narrow, high_bits}
use Rattle.product.proofs.Packing.{number_is_state, number_is_accept, number_is_reject}
use Rattle.product.proofs.counted.Counted.target.Goals as goal

pub overflow_shr-number : goal.overflow_shr-number
overflow_shr-number c = buffer_narrow c.args.self.now

pub overflow_shr-number-2 : goal.overflow_shr-number-2
overflow_shr-number-2 c = headers-narrow c.args.self.now
