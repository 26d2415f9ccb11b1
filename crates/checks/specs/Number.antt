-- The number of each fault. Assumes nothing.
use Rattle.std.specs.Prelude.{ℕ}
use Rattle.checks.specs.declared.fault.Fault.{Fault}
use Rattle.checks.specs.declared.fault.Fault.TheVariants.{Limits, Names, Widths, TakesNothing, TakesTooMuch}

abbrev pub number_of : Fault → ℕ
number_of Limits = 2
number_of Names = 3
number_of Widths = 4
number_of TakesNothing = 5
number_of TakesTooMuch = 6
