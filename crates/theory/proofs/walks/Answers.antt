use Rattle.theory.proofs.Waiting.{waiting, completing, going_on}
use Rattle.theory.proofs.walks.Goals as goal

pub returns : goal.returns
returns c = record { fewer = waiting; exactly = completing; more = going_on }
