use Rattle.product.proofs.Pairs.{leading_distinguishes}
use Rattle.product.proofs.leading_distinguishes.Goals as goal

pub returns : goal.returns
returns c = leading_distinguishes
