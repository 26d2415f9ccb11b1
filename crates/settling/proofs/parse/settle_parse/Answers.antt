use Rattle.std.proofs.Common.{sym, ap, ◌∙◌}
use Rattle.std.proofs.lemmas.Bool.{and_parts}
use Rattle.model.specs.Refusal.{are_bits}
use Rattle.settling.proofs.parse.settle_parse.Goals as goal

pub accepts-requires-clause-bits : goal.accepts-requires-clause-bits
accepts-requires-clause-bits c =
    let fit = and_parts _ _ (sym c.if-not-fits.ensures) in
    ap are_bits (c.deref-4.ensures.value ∙ sym c.deref-2.ensures.value) ∙ (and_parts _ _ fit.1).0
