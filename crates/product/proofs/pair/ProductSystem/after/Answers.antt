use Rattle.product.specs.declared.product.Product.{Product}
use Rattle.product.proofs.Joining.{first_of, second_of, second_half, pair_below, pair_good}
use Rattle.product.proofs.pair.ProductSystem.after.Goals as goal

pub next-requires-2-clause-good : goal.next-requires-2-clause-good
next-requires-2-clause-good c = second_half c.args.self.now c.args.p c.requires.good c.split-first.ensures.second

pub returns-clause-good : goal.returns-clause-good
returns-clause-good c =
    let s : Product = c.args.self.now in
    pair_good (first_of s) (second_of s) _ _ c.next.ensures.below c.next-2.ensures.below c.join.ensures c.next.ensures.good c.next-2.ensures.good

pub returns-clause-below : goal.returns-clause-below
returns-clause-below c =
    let s : Product = c.args.self.now in
    pair_below (first_of s) (second_of s) _ _ c.next.ensures.below c.next-2.ensures.below c.join.ensures
