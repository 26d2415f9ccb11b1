-- A clause with one more literal.
use Rattle.std.proofs.Common.{◌≡◌, ℕ, ◌+◌, ◌/◌, ◌%◌, Bool, not, List, [], ◌∷◌, ◌++◌, Some, ap, ⊎_elim, arith}
use Rattle.clauses.specs.Clauses.{bit}
use Rattle.clauses.specs.Known.{Resolved, Looked}
use Rattle.clauses.specs.declared.known.Known.{Known as Knowledge}
use Rattle.clauses.specs.declared.bits.Bit.TheVariants.{Known, Open}
use Rattle.clauses.specs.declared.look.Look.{Look}
use Rattle.clauses.specs.declared.look.Look.TheVariants.{Dead, One, Other}
use Rattle.clauses.proofs.Signs.{bit_le, bit_not}
use Rattle.clauses.proofs.Sats.{sat_push}

module _ (k : Knowledge) (ls : List ℕ) (l : ℕ) (negated : Bool) (sign : l % 2 ≡ bit negated) where
  -- a literal that is false
  pub join_known : (b : Bool) → bit b ≡ bit negated → Resolved k.rep.now k.value.now (l / 2) (Some (Known b)) → (before : Look) → Looked k ls before → Looked k (ls ++ (l ∷ [])) before
  join_known b same r Dead h = λ v fits sat. ⊎_elim (h v fits) (λ holds. omega (arith, r v fits)) (sat_push v ls l sat)
  join_known b same r (One q c) h = (h.0, λ v fits sat. ⊎_elim (h.1 v fits) (λ holds. absurd (omega (arith, r v fits))) (sat_push v ls l sat))
  join_known b same r Other h = tt

  -- the first that is open
  pub join_first : (q : ℕ) → Resolved k.rep.now k.value.now (l / 2) (Some (Open q)) → Looked k ls Dead → Looked k (ls ++ (l ∷ [])) (One q (not negated))
  join_first q r h =
      (r.0, λ v fits sat. ⊎_elim (λ s. absurd (h v fits s)) (λ holds. omega (arith, r.1 v fits, bit_not negated)) (sat_push v ls l sat))

  -- the same once more
  pub join_again : (p q : ℕ) (b : Bool) → p ≡ q → bit b + bit negated ≡ 1 → Resolved k.rep.now k.value.now (l / 2) (Some (Open q)) → Looked k ls (One p b) → Looked k (ls ++ (l ∷ [])) (One p b)
  join_again p q b same apart r h = (
    h.0,
    λ v fits sat. ⊎_elim
        (h.1 v fits)
        (λ holds. omega (arith, r.1 v fits, ap (λ x. bit (v x)) same, apart, bit_le (v p)))
        (sat_push v ls l sat),
  )
