use Rattle.theory.proofs.Stepping.{time_is_nothing}
use Rattle.theory.proofs.time_is_nothing.Goals as goal

pub returns : goal.returns
returns c = time_is_nothing
