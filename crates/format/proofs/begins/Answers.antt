use Rattle.format.proofs.Offsets.{begins}
use Rattle.format.proofs.begins.Goals as goal

pub returns : goal.returns
returns c = begins
