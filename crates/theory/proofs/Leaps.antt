-- A relation that leaps keep shows that two parsers are equivalent. Assumes nothing.
use Rattle.std.proofs.Common.{◌≡◌, ℕ, ◌<◌, min, true, cond, ◌⊎◌, length, sym, refl, ap, ◌∙◌, subst, inl, inr, ⊎_elim, arith}
use Rattle.std.proofs.lemmas.Bool.{cond_both, false≢true}
use Rattle.model.specs.Parser.{Bits, Target, state, accept, reject, Parser}
use Rattle.model.specs.Refusal.{are_bits}
use Rattle.model.specs.Config.{Config, steps, is_accept, initial}
use Rattle.model.specs.Theory.{BitByBit}
use Rattle.theory.specs.Machine.{run, Agree, Leaping}
use Rattle.theory.specs.Good.{machine}
use Rattle.theory.specs.Leap.{Ready, left, is_reject, fewest, leap_size, KeptByLeaps, LeapsAreEquivalent}
use Rattle.theory.proofs.Leaping.{leaping_same}
use Rattle.theory.proofs.Waiting.{steps-run, waiting}
use Rattle.theory.proofs.Stepping.{rejected, bit_by_bit}

reject_is : (t : Target) → is_reject t ≡ true → t ≡ reject
reject_is (state q) e = absurd (false≢true e)
reject_is accept e = absurd (false≢true e)
reject_is reject e = refl

-- fewer bits than a leap has are fewer than each side needs, or it has rejected
fewest_parts : (t u : Target) (k m n : ℕ) → k < fewest t u m n → ((t ≡ reject) ⊎ (k < m)) × ((u ≡ reject) ⊎ (k < n))
fewest_parts t u k m n =
    let Parts : ℕ → Type 0 = λ x. k < x → ((t ≡ reject) ⊎ (k < m)) × ((u ≡ reject) ⊎ (k < n)) in
    cond_both (is_reject t) n (cond (is_reject u) m (min m n)) Parts (λ e l. (inl (reject_is t e), inr l))
    (λ _. cond_both (is_reject u) m (min m n) Parts (λ e l. (inr l, inl (reject_is u e))) (λ _ l. (inr (omega arith), inr (omega arith))))

fewest_some : (t u : Target) (m n : ℕ) → 0 < m → 0 < n → 0 < fewest t u m n
fewest_some t u m n x y =
    cond_both (is_reject t) n (cond (is_reject u) m (min m n)) (λ k. 0 < k) (λ _. y) (λ _. cond_both (is_reject u) m (min m n) (λ k. 0 < k) (λ _. x) (λ _. omega arith))

-- one side in the midst of a leap
midst : (p : Parser) (a : Config) (w : Bits) → Ready p a → (a.target ≡ reject) ⊎ (length w < left p a) → is_accept (steps p a w).target ≡ is_accept a.target
unfolding is_accept
midst p a w ready h =
    ⊎_elim (λ (e : a.target ≡ reject). rejected p a e w ∙ sym (ap is_accept e)) (λ (l : length w < left p a). ap (λ x. is_accept x.target) (waiting p a w (omega arith))) h

module _ (p q : Parser) (r : Config → Config → Type 0) (kept : KeptByLeaps p q r) where
  -- bit by bit, as the model has it and as a machine
  by_steps : (a b : Config) (w : Bits) → is_accept (steps p a w).target ≡ is_accept (steps q b w).target → Agree (machine p) (machine q) a b w
  by_steps a b w e = sym (ap (λ x. is_accept x.target) (steps-run p a w)) ∙ e ∙ ap (λ x. is_accept x.target) (steps-run q b w)

  by_leaps : Leaping (machine p) (machine q) r
  by_leaps a b h =
      ⊎_elim (λ (e : (a.target ≡ reject) × (b.target ≡ reject)). inl (λ w bits. by_steps a b w (rejected p a e.0 w ∙ sym (rejected q b e.1 w))))
      (λ (lands : (w : Bits) → are_bits w ≡ true → length w ≡ leap_size p q a b → r (steps p a w) (steps q b w)).
      inr
      (record {
        size = leap_size p q a b;
        some = fewest_some a.target b.target (left p a) (left q b) (omega (arith, kept.ready_first a b h)) (omega (arith, kept.ready_second a b h));
        quiet = λ w bits l.
            let both = fewest_parts a.target b.target (length w) (left p a) (left q b) l in
            by_steps a b w (midst p a w (kept.ready_first a b h) both.0 ∙ kept.alike a b h ∙ sym (midst q b w (kept.ready_second a b h) both.1));
        lands = λ w bits l.
            subst (λ x. r x (run (machine q) b w)) (steps-run p a w) (subst (λ y. r (steps p a w) y) (steps-run q b w) (lands w bits l));
      }))
      (kept.leaps a b h)

  pub leaps_agree : (a b : Config) → r a b → (w : Bits) → are_bits w ≡ true → is_accept (steps p a w).target ≡ is_accept (steps q b w).target
  leaps_agree a b h w bits =
      ap (λ x. is_accept x.target) (steps-run p a w) ∙ leaping_same (machine p) (machine q) r by_leaps a b h w bits
      ∙ sym (ap (λ x. is_accept x.target) (steps-run q b w))

pub leaps_are_equivalent : LeapsAreEquivalent
unfolding BitByBit
leaps_are_equivalent r c right-first right-second at_first at_second kept first s t bs ok_s ok_t bits =
    bit_by_bit c.first c.first_state s bs right-first at_first ok_s bits
    ∙ leaps_agree c.first c.second r kept (initial c.first_state s) (initial c.second_state t) (first s t ok_s ok_t) bs bits
    ∙ sym (bit_by_bit c.second c.second_state t bs right-second at_second ok_t bits)
