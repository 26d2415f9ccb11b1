use Rattle.product.specs.declared.product.Product.{Product}
use Rattle.product.proofs.Exponents.{headers-narrow}
use Rattle.product.proofs.Joining.{first_of, second_of, pair_below, pair_good}
use Rattle.product.proofs.pair.ProductSystem.start.Goals as goal

pub overflow_shr-i : goal.overflow_shr-i
overflow_shr-i c = headers-narrow c.args.self.now.second

pub low-requires : goal.low-requires
low-requires c = headers-narrow c.args.self.now.second

pub returns-clause-good : goal.returns-clause-good
returns-clause-good c =
    let s : Product = c.args.self.now in
    pair_good (first_of s) (second_of s) _ _ c.begin-first.ensures.below c.begin-second.ensures.below c.join.ensures c.begin-first.ensures.good c.begin-second.ensures.good

pub returns-clause-below : goal.returns-clause-below
returns-clause-below c =
    let s : Product = c.args.self.now in
    pair_below (first_of s) (second_of s) _ _ c.begin-first.ensures.below c.begin-second.ensures.below c.join.ensures
