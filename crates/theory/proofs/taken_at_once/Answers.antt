use Rattle.theory.proofs.Waiting.{taken_at_once}
use Rattle.theory.proofs.taken_at_once.Goals as goal

pub returns : goal.returns
returns c = taken_at_once
