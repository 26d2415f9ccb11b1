use Rattle.theory.proofs.Good.{stores_stay}
use Rattle.theory.proofs.stores_stay.Goals as goal

pub returns : goal.returns
returns c = stores_stay
