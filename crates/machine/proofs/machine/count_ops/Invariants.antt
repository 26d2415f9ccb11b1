use Rattle.machine.proofs.Ready.{Counted}
use Rattle.machine.proofs.machine.count_ops.Given as goal

abbrev pub invariant-loop-op : goal.invariant-loop-op
invariant-loop-op l = Counted l.sizes l.ops l.op-index l.total
