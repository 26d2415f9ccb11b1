use Rattle.std.proofs.Common.{rules}
use Rattle.checks.proofs.Parts.{all_narrow_of}
use Rattle.checks.proofs.taking.narrow.Goals as goal

pub returns : goal.returns
returns c = rw all_narrow_of (search rules)
