use Rattle.std.proofs.Common.{◌≡◌, ◌∙◌, sym, ap, arith}
use Rattle.reach.specs.Layouts.{slot}
use Rattle.reach.proofs.Slots.{first_changes, last_changes}
use Rattle.reach.proofs.layout.put_slot.Goals as goal

pub returns-in-0-clause-others : goal.returns-in-0-clause-others
returns-in-0-clause-others c = λ j l ne.
    first_changes c.args.word c.get_slot-old.result c.args.v j (omega arith) c.requires.1 (c.get_slot-old.ensures ∙ ap (slot c.args.word) c.in-0.is) l (λ e. ne (e ∙ sym c.in-0.is))

pub returns-in_default-clause-others : goal.returns-in_default-clause-others
returns-in_default-clause-others c = λ j l ne.
    let last : c.args.i ≡ 2 = omega (arith, c.requires.0, c.in_default) in
    last_changes c.args.word c.get_slot-old.result c.args.v j (omega arith) c.requires.1 (c.get_slot-old.ensures ∙ ap (slot c.args.word) last) l (λ e. ne (e ∙ sym last))
