use Rattle.std.proofs.Common.{◌≡◌, true, false, sym, refl, ap, ◌∙◌}
use Rattle.model.specs.Config.{is_accept}
use Rattle.syntax.specs.View.{target_of}
use Rattle.syntax.specs.declared.ast.Target.{Target}
use Rattle.syntax.specs.declared.ast.Target.TheVariants.{State, Accept, Reject}
use Rattle.product.proofs.counted.Counted.accepts.Goals as goal

accepting : is_accept (target_of Accept) ≡ true
unfolding is_accept
accepting = refl

leading_elsewhere : (t : Target) → (t ≡ Accept → ⊥) → false ≡ is_accept (target_of t)
unfolding is_accept
leading_elsewhere (State q) other = refl
leading_elsewhere Accept other = absurd (other refl)
leading_elsewhere Reject other = refl

pub returns-in-Accept : goal.returns-in-Accept
returns-in-Accept c = sym accepting ∙ ap (λ t. is_accept (target_of t)) (sym c.in-Accept.is) ∙ ap is_accept c.target.ensures

pub returns-in_default : goal.returns-in_default
returns-in_default c = leading_elsewhere c.target.result c.in_default.not-Accept ∙ ap is_accept c.target.ensures
