-- What is known of a point: its target, and how many bits that needs. Assumes nothing.
use Rattle.std.proofs.Common.{◌≡◌, ℕ, ◌<◌, true, ◌⊎◌, ap, subst, ⊎_elim}
use Rattle.std.proofs.lemmas.Bool.{ltb-true}
use Rattle.model.specs.Refusal.{named_target}
use Rattle.model.specs.Config.{needs}
use Rattle.syntax.specs.View.{target_of}
use Rattle.syntax.specs.declared.ast.Target.TheVariants.{State as To, Accept, Reject}
use Rattle.machine.specs.View.{parser_in, state_count, width_in}
use Rattle.machine.specs.declared.machine.Machine.{Machine}
use Rattle.symbols.specs.Side.{Stands, needed}
use Rattle.symbols.specs.declared.point.Point.{Point}

module _ (m : Machine) (a : Point) where
  pub state_known : {q : ℕ} → Stands m a → a.target ≡ To q → q < state_count m
  state_known stands is = ltb-true _ _ (subst (λ t. named_target (state_count m) (target_of t) ≡ true) is stands.known)

  pub state_needs : {q : ℕ} → a.target ≡ To q → needed m a ≡ width_in m q
  unfolding needs
  state_needs is = ap (λ t. needs (parser_in m) (target_of t)) is

  pub end_needs : (a.target ≡ Accept) ⊎ (a.target ≡ Reject) → needed m a ≡ 1
  unfolding needs
  end_needs e =
      ⊎_elim (λ (is : a.target ≡ Accept). ap (λ t. needs (parser_in m) (target_of t)) is) (λ (is : a.target ≡ Reject). ap (λ t. needs (parser_in m) (target_of t)) is) e
