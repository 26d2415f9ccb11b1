use Rattle.std.proofs.Common.{arith}
use Rattle.product.specs.declared.product.Product.{Product}
use Rattle.product.proofs.Joining.{starts_narrow, starts_counted, stores_few}
use Rattle.product.proofs.pair.ProductSystem.starts.Goals as goal

pub overflow_shl-result : goal.overflow_shl-result
overflow_shl-result c = starts_narrow c.args.self.now

pub returns : goal.returns
returns c =
    let s : Product = c.args.self.now in
    record { value = starts_counted s; few = omega (arith, starts_counted s, stores_few s) }
