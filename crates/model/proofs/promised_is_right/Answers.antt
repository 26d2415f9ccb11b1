use Rattle.model.proofs.Promises.{promised_is_right}
use Rattle.model.proofs.promised_is_right.Goals as goal

pub returns : goal.returns
returns c = promised_is_right
