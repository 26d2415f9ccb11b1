use Rattle.std.proofs.Common.{◌≡◌, ℕ, ◌+◌, ◌%◌, ◌/◌, ◌<◌, Bool, ◌⊎◌, List, take, length, get_or, sym, ap, ◌∙◌, subst, inl, inr, ⊎_elim}
use Rattle.std.proofs.lemmas.List.{take_more}
use Rattle.std.proofs.lemmas.Result.{err_from_is_err_and}
use Rattle.clauses.specs.Clauses.{bit, Sat}
use Rattle.clauses.proofs.Sats.{sat_take, deny_more}
use Rattle.clauses.proofs.Trails.{kept_both}
use Rattle.clauses.proofs.known.Known.deny.Goals as goal

-- the next literal holds, or is false from now on
more : (v : ℕ → Bool) (ls : List ℕ) (i p b : ℕ) (P X : Type 0) → i < length ls → p ≡ get_or ls i 0 / 2 → b ≡ get_or ls i 0 % 2 → Sat v (take i ls) ⊎ P → (P → bit (v p) ≡ b → X) → Sat v (take (i + 1) ls) ⊎ X
more v ls i p b P X lt at is had then =
    subst (λ x. Sat v x ⊎ X) (sym (take_more ls i 0 lt))
    (deny_more v (take i ls) (get_or ls i 0) P X had (λ h s. then h (ap (λ x. bit (v x)) at ∙ s ∙ sym is)))

pub returns-in_err-assume-clause-kept : goal.returns-in_err-assume-clause-kept
returns-in_err-assume-clause-kept c = kept_both _ _ _ c.loop-l.invariant.0 c.assume.ensures.kept

pub returns-in_err-assume-clause-after : goal.returns-in_err-assume-clause-after
returns-in_err-assume-clause-after c = λ v fits.
    let p = err_from_is_err_and c.from_residual.result c.from_residual.ensures.1 in
    rw (p.1, p.2) (⊎_elim
    (λ sat. inl (sat_take v (c.loop-l.l-index + 1) c.args.clause.now sat))
    (λ x. inr x)
    (more v _ _ _ _ _ _ c.loop-l-test.true c.from-l.ensures.0 c.from-l.ensures.1 (c.loop-l.invariant.1 v fits) (c.in_err-assume.ensures.after v)))

pub loop-l-preserved : goal.loop-l-preserved
loop-l-preserved c = (
  kept_both _ _ _ c.loop-l.invariant.0 c.assume.ensures.kept,
  λ v fits. more v _ _ _ _ _ _ c.loop-l-test.true c.from-l.ensures.0 c.from-l.ensures.1 (c.loop-l.invariant.1 v fits) (λ h is. c.in_ok-assume.ensures.after v h is),
)
