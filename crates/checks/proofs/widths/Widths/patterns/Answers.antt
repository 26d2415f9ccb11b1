use Rattle.std.proofs.Common.{rules}
use Rattle.checks.proofs.Tested.{sized_patterns_of}
use Rattle.checks.proofs.widths.Widths.patterns.Goals as goal

pub returns-then-keys-patterns : goal.returns-then-keys-patterns
returns-then-keys-patterns c k = rw (sized_patterns_of _ _ _ k) (search rules)

pub returns-else-keys-patterns : goal.returns-else-keys-patterns
returns-else-keys-patterns c k = rw (sized_patterns_of _ _ _ k) (search rules)
