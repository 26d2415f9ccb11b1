use Rattle.std.proofs.Common.{vec_items}
use Rattle.machine.proofs.Ready.{Laid}
use Rattle.machine.proofs.machine.lay_out.Given as goal

abbrev pub invariant-loop-size : goal.invariant-loop-size
invariant-loop-size l = Laid (vec_items l.starts) l.size-items l.next l.size-index
