use Rattle.machine.proofs.Words.{row_none}
use Rattle.machine.proofs.store.Store.empty.Goals as goal

pub returns : goal.returns
returns c = λ k. row_none 64 k
