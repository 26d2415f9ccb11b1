use Rattle.std.proofs.Common.{rules}
use Rattle.checks.proofs.Parts.{sized-state_of}
use Rattle.checks.proofs.widths.Widths.state.Goals as goal

pub returns-then-exprs : goal.returns-then-exprs
returns-then-exprs c = rw sized-state_of (search rules)

pub returns-else-exprs : goal.returns-else-exprs
returns-else-exprs c = rw sized-state_of (search rules)
