use Rattle.theory.proofs.Numbering.{numbering_injective}
use Rattle.theory.proofs.numbers_are_apart.Goals as goal

pub returns : goal.returns
returns c = numbering_injective
