use Rattle.std.proofs.Common.{◌≡◌, true}
use Rattle.model.specs.Parser.{run_ops}
use Rattle.model.specs.Refusal.{are_bits}
use Rattle.syntax.specs.View.{state_of}
use Rattle.machine.specs.View.{contents, sizes_in}
use Rattle.machine.proofs.Performing.{Going}
use Rattle.machine.proofs.machine.Machine.perform.Given as goal

abbrev pub invariant-loop-op : goal.invariant-loop-op
invariant-loop-op l =
    record {
      going : Going (sizes_in l.self) (run_ops (sizes_in l.self) (state_of l.state).ops l.part (contents l.self l.initial.store)) (contents l.self l.store) l.op-items l.rest l.op-index;
      bits : are_bits l.rest ≡ true;
    }
