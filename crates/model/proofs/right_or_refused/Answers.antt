use Rattle.model.proofs.Promises.{right_or_refused}
use Rattle.model.proofs.right_or_refused.Goals as goal

pub returns : goal.returns
returns c = right_or_refused
