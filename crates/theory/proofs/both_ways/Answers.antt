use Rattle.theory.proofs.Equivalence.{both_ways}
use Rattle.theory.proofs.both_ways.Goals as goal

pub returns : goal.returns
returns c = both_ways
