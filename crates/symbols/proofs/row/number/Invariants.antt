use Rattle.std.proofs.Common.{◌≡◌, take}
use Rattle.machine.specs.Row.{part}
use Rattle.symbols.specs.Symbol.{symbol}
use Rattle.symbols.proofs.row.number.Given as goal

abbrev pub invariant-loop-i : goal.invariant-loop-i
invariant-loop-i l = take l.i l.symbol-items ≡ part symbol l.first l.i
