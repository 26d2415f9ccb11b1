use Rattle.model.specs.Parser.{run_ops}
use Rattle.syntax.specs.View.{state_of}
use Rattle.machine.specs.View.{sizes_in}
use Rattle.machine.proofs.Performing.{Going}
use Rattle.symbols.specs.View.{symbols_in}
use Rattle.symbols.proofs.walk.perform.Given as goal

abbrev pub invariant-loop-op : goal.invariant-loop-op
invariant-loop-op l =
    Going (sizes_in l.machine) (run_ops (sizes_in l.machine) (state_of l.state).ops l.part (symbols_in l.machine l.initial.heads)) (symbols_in l.machine l.heads) l.op-items l.rest l.op-index
