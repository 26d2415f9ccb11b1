use Rattle.theory.proofs.Numbering.{numbering_below}
use Rattle.theory.proofs.numbers_are_below.Goals as goal

pub returns : goal.returns
returns c = numbering_below
