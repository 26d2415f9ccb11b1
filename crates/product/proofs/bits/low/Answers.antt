use Rattle.std.proofs.Common.{◌-◌, ap, ◌∙◌}
use lib.Bits.{bit_and}
use Rattle.std.proofs.lemmas.Nat.{and_mask, one_shl}
use Rattle.product.proofs.bits.low.Goals as goal

pub returns : goal.returns
returns c = ap (λ m. bit_and c.args.k (m - 1)) (one_shl c.args.bits 64 c.requires) ∙ and_mask c.args.k c.args.bits
