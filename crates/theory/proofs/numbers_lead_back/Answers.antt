use Rattle.theory.proofs.Numbering.{numbering_inverse}
use Rattle.theory.proofs.numbers_lead_back.Goals as goal

pub returns : goal.returns
returns c = numbering_inverse
