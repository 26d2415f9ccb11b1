use Rattle.product.proofs.Pairs.{safe_is_equivalent}
use Rattle.product.proofs.safe_is_equivalent.Goals as goal

pub returns : goal.returns
returns c = safe_is_equivalent
