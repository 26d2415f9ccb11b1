use Rattle.rows.specs.Row.{bit_in}
use Rattle.machine.specs.Row.{part}
use Rattle.machine.specs.Window.{Written}
use Rattle.machine.proofs.store.Store.copy.Given as goal

abbrev pub invariant-loop-i : goal.invariant-loop-i
invariant-loop-i l = Written (bit_in l.initial.self.words) (bit_in l.self.words) (part (bit_in l.other.words) l.start l.n) l.k l.i
