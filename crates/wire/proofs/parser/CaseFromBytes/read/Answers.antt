use Rattle.std.proofs.Common.{vec_items}
use Rattle.syntax.specs.View.{pattern_of}
use Rattle.scan.proofs.Chain.{took, then_took}
use Rattle.wire.proofs.Lists.{each_is}
use Rattle.wire.proofs.parser.CaseFromBytes.read.Goals as goal

pub returns : goal.returns
returns c =
    let ps = c.in_ok-patterns.ensures in
    let t = c.in_ok-target.ensures in
    let same = each_is pattern_of (vec_items c.in_ok-patterns.patterns) ps.value ps.meant in
    then_took _ ps (then_took _ t (took (record { patterns = ps.value; target = t.value }) t.within (rw (same, t.meant))))
