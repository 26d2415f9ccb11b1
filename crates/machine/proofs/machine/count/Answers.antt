use Rattle.std.proofs.Common.{◌≤◌, map, vec_items, sym, ap, ◌∙◌, subst, ap₂}
use mathlib.Core.List.{map-map}
use Rattle.model.specs.Parser.{width, ops_width}
use Rattle.model.specs.Refusal.{every, named_op}
use Rattle.syntax.specs.View.{op_of, state_of, parser_of}
use Rattle.machine.proofs.Facts.{sound_read}
use Rattle.machine.proofs.Ready.{made_more, made_all}
use Rattle.machine.proofs.machine.count.Goals as goal

pub count_ops-requires : goal.count_ops-requires
count_ops-requires c =
    let ok = sound_read c.args.checked.now c.deref-state-items.ensures.value c.loop-state-test.true c.state-item.is in
    record {
      named = ap₂ (λ ns os. every (named_op ns) (map op_of os)) c.deref-in-loop-state.ensures.value c.deref.ensures.value ∙ ok.named_ops;
      few = subst (λ n. n ≤ 4096) (sym (ap₂ (λ ns os. ops_width ns (map op_of os)) c.deref-in-loop-state.ensures.value c.deref.ensures.value)) ok.narrow;
    }

pub returns : goal.returns
returns c =
    let p = parser_of c.args.checked.now.parser in
    made_all c.loop-state.invariant c.loop-state-test.false ∙ ap (map (λ z. width p (state_of z))) c.deref-state-items.ensures.value ∙ sym (map-map (width p) state_of (vec_items c.args.checked.now.parser.states))
