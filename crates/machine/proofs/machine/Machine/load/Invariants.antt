use Rattle.std.proofs.Common.{map, vec_items}
use Rattle.machine.specs.View.{contents}
use Rattle.machine.proofs.Loading.{Loaded}
use Rattle.machine.proofs.machine.Machine.load.Given as goal

abbrev pub invariant-loop-h : goal.invariant-loop-h
invariant-loop-h l = Loaded (map vec_items l.headers) (contents l.self l.store) l.h
