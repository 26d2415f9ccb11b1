use Rattle.std.proofs.Common.{rules}
use Rattle.checks.proofs.Tested.{store_fits_of}
use Rattle.checks.proofs.contents.store_fits.Goals as goal

pub returns-then-sizes-headers : goal.returns-then-sizes-headers
returns-then-sizes-headers c = rw store_fits_of (search rules)

pub returns-else-sizes-headers : goal.returns-else-sizes-headers
returns-else-sizes-headers c = rw store_fits_of (search rules)
