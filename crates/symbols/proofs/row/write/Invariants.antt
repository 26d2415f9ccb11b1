use Rattle.std.proofs.Common.{◌≡◌, take}
use Rattle.symbols.proofs.row.write.Given as goal

abbrev pub invariant-loop-i : goal.invariant-loop-i
invariant-loop-i l = take l.i l.place-items ≡ take l.i l.bits
