use Rattle.std.proofs.Common.{◌≡◌, length, drop}
use Rattle.model.specs.Parser.{same_bits}
use Rattle.rows.specs.Row.{bit_in}
use Rattle.machine.specs.Row.{part}
use Rattle.machine.proofs.store.Store.holds.Given as goal

abbrev pub invariant-loop-i : goal.invariant-loop-i
invariant-loop-i l = same_bits (drop l.i (part (bit_in l.self.words) l.k (length l.bits))) (drop l.i l.bits) ≡ same_bits (part (bit_in l.self.words) l.k (length l.bits)) l.bits
