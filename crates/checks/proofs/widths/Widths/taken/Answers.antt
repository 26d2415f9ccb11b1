use Rattle.std.proofs.Common.{◌≡◌, ℕ, ◌<◌, List, map, sym, ap, ◌∙◌, arith}
use Rattle.std.proofs.lemmas.Bool.{le-leb, lt-leb}
use Rattle.model.specs.Parser.{ops_width}
use Rattle.model.specs.Refusal.{total}
use Rattle.syntax.specs.View.{op_of}
use Rattle.syntax.specs.declared.ast.Op.{Op}
use Rattle.checks.specs.Measured.{op_width}
use Rattle.checks.proofs.Totals.{ops_width_of, paid_all, paid_short}
use Rattle.checks.proofs.widths.Widths.taken.Goals as goal

abbrev cost : List ℕ → Op → ℕ
cost ns o = op_width ns (op_of o)

all_ops : (ns : List ℕ) {ops items : List Op} → ops ≡ items → total (cost ns) ops ≡ ops_width ns (map op_of items)
all_ops ns {ops} {items} is = ap (total (cost ns)) is ∙ sym (ops_width_of ns items)

pub returns-in_err-left : goal.returns-in_err-left
returns-in_err-left c =
    let ns : List ℕ = c.args.self.now.sizes.now in
    let ops : List Op = c.deref-op-items.result.now in
    let wide : cost ns c.op-item.result ≡ c.header.result = ap (cost ns) c.in-Extract.is ∙ sym c.header.ensures in
    let short : 4096 < total (cost ns) ops
    = paid_short (cost ns) ops c.loop-op.op-index 4096 c.loop-op.left c.loop-op.invariant c.loop-op-test.true c.op-item.is (omega (arith, wide, c.in_err-left.ensures)) in
    rw c.from_residual.ensures (lt-leb _ 4096 (omega (arith, all_ops ns c.deref-op-items.ensures.value, short)))

pub returns : goal.returns
returns c =
    let ns : List ℕ = c.args.self.now.sizes.now in
    let all = all_ops ns c.deref-op-items.ensures.value in
    let paid = paid_all (cost ns) c.deref-op-items.result.now c.loop-op.op-index 4096 c.loop-op.left c.loop-op.invariant c.loop-op-test.false in
    (le-leb _ 4096 (omega (arith, all, paid)), omega (arith, all, paid))
