use Rattle.theory.proofs.Leaps.{leaps_are_equivalent}
use Rattle.theory.proofs.leaps_are_equivalent.Goals as goal

pub returns : goal.returns
returns g c = leaps_are_equivalent _
