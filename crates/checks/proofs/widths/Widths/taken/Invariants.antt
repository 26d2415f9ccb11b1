use Rattle.std.proofs.Common.{◌≡◌, ◌+◌, drop}
use Rattle.model.specs.Refusal.{total}
use Rattle.syntax.specs.View.{op_of}
use Rattle.checks.specs.Measured.{op_width}
use Rattle.checks.proofs.widths.Widths.taken.Given as goal

abbrev pub invariant-loop-op : goal.invariant-loop-op
invariant-loop-op l =
    l.left + total (λ o. op_width l.self.sizes.now (op_of o)) l.op-items ≡ 4096 + total (λ o. op_width l.self.sizes.now (op_of o)) (drop l.op-index l.op-items)
