use Rattle.std.proofs.Common.{vec_items, sym, ◌∙◌, map-id}
use Rattle.model.specs.Refusal.{shallow_state}
use Rattle.syntax.specs.View.{state_of}
use Rattle.scan.proofs.Chain.{took, then_took}
use Rattle.wire.proofs.Lists.{each_is, kept_within}
use Rattle.wire.proofs.parser.ParserFromBytes.read.Goals as goal

pub returns : goal.returns
returns c =
    let ns = c.in_ok-sizes.ensures in
    let qs = c.in_ok-states.ensures in
    let same = sym (map-id (vec_items c.in_ok-sizes.sizes)) ∙ each_is (λ n. n) (vec_items c.in_ok-sizes.sizes) ns.value ns.meant in
    then_took _ ns (then_took _ qs (took (record { sizes = ns.value; states = qs.value }) qs.within
    (rw (← same) (c.parser.ensures qs.value (kept_within state_of shallow_state c.in_ok-states.states qs.value qs.meant)))))
