use Rattle.std.proofs.Common.{◌≡◌, take}
use Rattle.theory.specs.Number.{number_bits}
use Rattle.product.proofs.bits.spread.Given as goal

abbrev pub invariant-loop-i : goal.invariant-loop-i
invariant-loop-i l = take l.i l.bit-items ≡ number_bits l.i l.bits
