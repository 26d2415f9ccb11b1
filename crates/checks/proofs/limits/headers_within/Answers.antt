use Rattle.std.proofs.Common.{rules}
use Rattle.checks.proofs.Within.{headers_within_of}
use Rattle.checks.proofs.limits.headers_within.Goals as goal

pub returns-then-have_bits : goal.returns-then-have_bits
returns-then-have_bits c = rw headers_within_of (search rules)
