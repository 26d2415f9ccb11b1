use Rattle.std.proofs.Common.{arith}
use Rattle.machine.proofs.Ready.{extract_known, counted_room, counted_extract, counted_assign, counted_all}
use Rattle.machine.proofs.machine.count_ops.Goals as goal
use Rattle.machine.proofs.machine.count_ops.Goals.{in-Extract, in_default}

pub bounds-sizes-h : goal.bounds-sizes-h
bounds-sizes-h c = extract_known c.args.sizes.now c.args.ops.now c.requires.named c.loop-op-test.true c.op-item.is c.in-Extract.is

pub overflow_add-total : goal.overflow_add-total
overflow_add-total c = omega (arith, counted_room c.args.sizes.now c.loop-op.invariant c.loop-op-test.true c.op-item.is c.in-Extract.is, c.requires.few)

pub loop-op-preserved : goal.loop-op-preserved
loop-op-preserved c =
    elim c.match-op.branch [
      | in-Extract w ↦ counted_extract c.args.sizes.now c.loop-op.invariant c.loop-op-test.true c.op-item.is w.in-Extract.is w.total-is
      | in_default w ↦ counted_assign c.args.sizes.now c.loop-op.invariant c.loop-op-test.true c.op-item.is w.in_default.is w.total-is
    ]

pub returns : goal.returns
returns c = counted_all c.args.sizes.now c.loop-op.invariant c.loop-op-test.false
