use Rattle.std.proofs.Common.{◌+◌, ◌++◌, length, take}
use Rattle.machine.specs.Row.{part}
use Rattle.symbols.specs.View.{in_row}
use Rattle.symbols.specs.Symbol.{paired}
use Rattle.symbols.proofs.Pairing.{Pairing}
use Rattle.symbols.proofs.select.pair_up.Given as goal

abbrev pub invariant-loop-i : goal.invariant-loop-i
invariant-loop-i l =
    Pairing l.out (take l.at l.initial.out ++ paired (part (in_row l.initial.out) (l.at + length l.bits) (length l.bits)) l.bits)
    (part (in_row l.initial.out) (l.at + length l.bits) (length l.bits)) l.bits l.at l.i
