use Rattle.std.proofs.Common.{◌/◌, ◌%◌, ◌^◌, ◌∙◌, ap₂}
use Rattle.product.proofs.Exponents.{headers-narrow, buffer_narrow}
use Rattle.product.proofs.counted.Counted.headers.Goals as goal

pub overflow_shr-k : goal.overflow_shr-k
overflow_shr-k c = buffer_narrow c.args.self.now

pub low-requires : goal.low-requires
low-requires c = headers-narrow c.args.self.now
