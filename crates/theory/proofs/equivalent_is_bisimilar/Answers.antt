use Rattle.theory.proofs.Equivalence.{accepting_alike}
use Rattle.theory.proofs.equivalent_is_bisimilar.Goals as goal

pub returns : goal.returns
returns c = accepting_alike
