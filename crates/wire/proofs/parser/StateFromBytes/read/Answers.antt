use Rattle.std.proofs.Common.{vec_items}
use Rattle.model.specs.Refusal.{shallow, shallow_op}
use Rattle.syntax.specs.View.{op_of, expr_of, case_of}
use Rattle.scan.proofs.Chain.{took, then_took}
use Rattle.wire.proofs.Lists.{each_is, kept_within}
use Rattle.wire.proofs.parser.StateFromBytes.read.Goals as goal

pub returns : goal.returns
returns c =
    let os = c.in_ok-ops.ensures in
    let es = c.in_ok-keys.ensures in
    let cs = c.in_ok-cases.ensures in
    let t = c.in_ok-otherwise.ensures in
    let same = each_is case_of (vec_items c.in_ok-cases.cases) cs.value cs.meant in
    then_took _ os (then_took _ es (then_took _ cs (then_took _ t
    (took (record { ops = os.value; keys = es.value; cases = cs.value; otherwise = t.value }) t.within
    (rw (← same, ← t.meant)
    (c.state.ensures os.value es.value (kept_within op_of shallow_op c.in_ok-ops.ops os.value os.meant) (kept_within expr_of shallow c.in_ok-keys.keys es.value es.meant)))))))
