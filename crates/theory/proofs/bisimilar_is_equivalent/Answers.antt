use Rattle.theory.proofs.Equivalence.{bisimilar_of}
use Rattle.theory.proofs.bisimilar_is_equivalent.Goals as goal

pub returns : goal.returns
returns g c = bisimilar_of _
