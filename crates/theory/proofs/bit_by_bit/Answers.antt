use Rattle.theory.proofs.Stepping.{bit_by_bit}
use Rattle.theory.proofs.bit_by_bit.Goals as goal

pub returns : goal.returns
returns c = bit_by_bit
