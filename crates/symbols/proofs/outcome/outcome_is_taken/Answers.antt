use Rattle.symbols.proofs.Choosing.{outcome_is_taken}
use Rattle.symbols.proofs.outcome.outcome_is_taken.Goals as goal

pub returns : goal.returns
returns c = outcome_is_taken
