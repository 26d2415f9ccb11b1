use Rattle.std.proofs.Common.{rules}
use Rattle.checks.proofs.Parts.{named-state_of}
use Rattle.checks.proofs.names.Names.state.Goals as goal

pub returns-then-cases : goal.returns-then-cases
returns-then-cases c = rw named-state_of (search rules)

pub returns-else-cases : goal.returns-else-cases
returns-else-cases c = rw named-state_of (search rules)
