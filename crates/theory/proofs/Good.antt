-- A parser that is right stays in good configurations, so that its stores keep their sizes. Assumes nothing.
use Rattle.std.proofs.Common.{◌≡◌, ℕ, ◌<◌, ◌≤◌, true, ltb, [], ◌∷◌, ◌++◌, length, get_or, sym, refl, subst, lit<}
use Rattle.std.proofs.lemmas.Bool.{and_parts, and_from, ltb-true, ltb-false, lt-ltb, cond_both}
use Rattle.model.specs.Parser.{Bits, Target, state, accept, reject, State, Parser, Store, run_ops, select, no_state}
use Rattle.model.specs.Refusal.{are_bits, fault, named_target, store_fits, widest}
use Rattle.model.specs.Config.{Config, needs, transition, step, steps, initial}
use Rattle.model.specs.Theory.{StoresStay}
use Rattle.theory.specs.Good.{Good}
use Rattle.theory.proofs.Facts.{Sound, sound_at, width-widest, widest_some}
use Rattle.model.proofs.Every.{every_append}
use Rattle.theory.proofs.Stores.{run_ops-fits, select-named}
use Rattle.theory.proofs.Waiting.{steps_none, steps_more, grown}

module _ (p : Parser) (right : fault p ≡ 0) where
  -- what is there takes a bit at least
  pub needs_some : (t : Target) → named_target (length p.states) t ≡ true → 0 < needs p t
  unfolding needs
  needs_some (state q) there = (sound_at p right q (ltb-true _ _ there)).takes
  needs_some accept there = lit< tt
  needs_some reject there = lit< tt

  -- and no more than the widest state, where there is a state
  pub needs-widest : (q : ℕ) → q < length p.states → (t : Target) → named_target (length p.states) t ≡ true → needs p t ≤ widest p.sizes p.states
  unfolding needs
  needs-widest q l (state i) there = width-widest p.sizes p.states i no_state (ltb-true _ _ there)
  needs-widest q l accept there = widest_some p right q l
  needs-widest q l reject there = widest_some p right q l

  pub good_initial : (q : ℕ) (s : Store) → q < length p.states → store_fits p.sizes s ≡ true → Good p (initial q s)
  good_initial q s l ok = let there = lt-ltb q (length p.states) l in record { there = there; fits = ok; bits = refl; waits = needs_some (state q) there }

  pub good_transition : (a : Config) (bs : Bits) (t : Target) → named_target (length p.states) t ≡ true → store_fits p.sizes a.store ≡ true
      → are_bits bs ≡ true → needs p t ≤ length bs → Good p (transition p a bs t)
  unfolding transition needs
  good_transition a bs (state q) there ok are l =
      let z : State = get_or p.states q no_state in
      let known : Sound p.sizes (length p.states) z = sound_at p right q (ltb-true _ _ there) in
      let u : Store = run_ops p.sizes z.ops bs a.store in
      let on = select-named (length p.states) u z.keys z.cases z.otherwise known.named_cases known.named_otherwise in
      record {
        there = on;
        fits = run_ops-fits p.sizes z.ops bs a.store known.named_ops known.sized_ops are l ok;
        bits = refl;
        waits = needs_some (select u z.keys z.cases z.otherwise) on;
      }
  good_transition a bs accept there ok are l = record { there = refl; fits = ok; bits = refl; waits = lit< tt }
  good_transition a bs reject there ok are l = record { there = refl; fits = ok; bits = refl; waits = lit< tt }

  pub good_step : (a : Config) (c : ℕ) → c < 2 → Good p a → Good p (step p a c)
  good_step a c bit good =
      let bs : Bits = a.buffer ++ (c ∷ []) in
      let are : are_bits bs ≡ true = every_append _ a.buffer (c ∷ []) good.bits (and_from _ _ (lt-ltb c 2 bit) refl) in
      cond_both (ltb (length bs) (needs p a.target)) (grown a (c ∷ [])) (transition p a bs a.target) (Good p)
      (λ e. record { there = good.there; fits = good.fits; bits = are; waits = ltb-true _ _ e })
      (λ e. good_transition a bs a.target good.there good.fits are (ltb-false _ _ e))

  pub good_steps : (a : Config) (bs : Bits) → are_bits bs ≡ true → Good p a → Good p (steps p a bs)
  good_steps a [] are good = subst (Good p) (sym (steps_none p a)) good
  good_steps a (b ∷ bs) are good =
      let two = and_parts _ _ are in
      subst (Good p) (sym (steps_more p a b bs)) (good_steps (step p a b) bs two.1 (good_step a b (ltb-true b 2 two.0) good))

pub stores_stay : StoresStay
unfolding StoresStay
stores_stay p q s bs right l ok are = (good_steps p right (initial q s) bs are (good_initial p right q s l ok)).fits
