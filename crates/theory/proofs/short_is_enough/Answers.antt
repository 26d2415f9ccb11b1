use Rattle.theory.proofs.Equivalence.{short_is_enough}
use Rattle.theory.proofs.short_is_enough.Goals as goal

pub returns : goal.returns
returns c = short_is_enough
