use Rattle.format.proofs.Offsets.{ceases}
use Rattle.format.proofs.ceases.Goals as goal

pub returns : goal.returns
returns c = ceases
