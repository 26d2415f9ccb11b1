use Rattle.std.proofs.Common.{◌≡◌, ◌+◌, drop}
use Rattle.model.specs.Refusal.{total}
use Rattle.checks.proofs.pay.pay_all.Given as goal

abbrev pub invariant-loop-element : goal.invariant-loop-element
invariant-loop-element g l =
    l.left + total g.X.Parts.parts l.elements ≡ l.initial.left + total g.X.Parts.parts (drop l.element-index l.elements)
