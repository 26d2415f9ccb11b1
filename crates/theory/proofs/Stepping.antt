-- Bit by bit comes to the same as state by state, and more time changes nothing. Assumes nothing.
use Rattle.std.proofs.Common.{◌≡◌, ℕ, zero, suc, ◌<◌, ◌≤◌, Bool, true, false, cond, leb, [], ◌∷◌, length, get_or, take, drop, sym, refl, ap, ◌∙◌, subst, ⊎_elim, not-suc-le-zero, arith}
use Rattle.std.proofs.lemmas.List.{length-drop, get_or_past}
use Rattle.std.proofs.lemmas.Bool.{cases_lt, le-leb, lt-leb, ltb-true, lt-ltb, ne_eqb}
use Rattle.model.specs.Parser.{Bits, Target, state, accept, reject, State, Parser, Store, width, run_ops, select, no_state, accepts_from}
use Rattle.model.specs.Refusal.{fault, named_target}
use Rattle.model.specs.Config.{Config, needs, transition, steps, is_accept, initial}
use Rattle.model.specs.Theory.{BitByBit, TimeIsNothing}
use Rattle.theory.proofs.Facts.{Sound, sound_at}
use Rattle.theory.proofs.Stores.{select-named}
use Rattle.theory.proofs.Waiting.{steps_none, steps_more, step_completes, waiting, going_on}

-- at the beginning of a target
abbrev at_first : Target → Store → Config
at_first t s = record { target = t; store = s; buffer = [] }

-- what is rejected stays so
rejects : (p : Parser) (s : Store) (bs w : Bits) → is_accept (steps p (record { target = reject; store = s; buffer = bs }) w).target ≡ false
unfolding is_accept needs transition
rejects p s bs [] = ap (λ a. is_accept a.target) (steps_none p (record { target = reject; store = s; buffer = bs }))
rejects p s bs (b ∷ w) =
    let a : Config = record { target = reject; store = s; buffer = bs } in
    ap (λ x. is_accept x.target) (steps_more p a b w ∙ ap (λ x. steps p x w) (step_completes p a b (omega arith))) ∙ rejects p s [] w

pub rejected : (p : Parser) (a : Config) → a.target ≡ reject → (w : Bits) → is_accept (steps p a w).target ≡ false
rejected p a e w =
    subst (λ t. is_accept (steps p (record { target = t; store = a.store; buffer = a.buffer }) w).target ≡ false) (sym e) (rejects p a.store a.buffer w)

-- accepted just where nothing is left
ends : (p : Parser) (s : Store) (b : ℕ) (w : Bits) → is_accept (steps p (at_first accept s) (b ∷ w)).target ≡ false
unfolding needs transition
ends p s b w =
    let a : Config = at_first accept s in
    ap (λ x. is_accept x.target) (steps_more p a b w ∙ ap (λ x. steps p x w) (step_completes p a b (omega arith))) ∙ rejects p s [] w

-- what a state does with its bits, if they are there
abbrev from_state : ℕ → Parser → Store → State → Bits → Bool
from_state n p s z bs =
    cond (leb (width p z) (length bs))
    (let u : Store = run_ops p.sizes z.ops (take (width p z) bs) s in accepts_from n p u (select u z.keys z.cases z.otherwise) (drop (width p z) bs))
    false

at_reject : (n : ℕ) (p : Parser) (s : Store) (bs : Bits) → accepts_from n p s reject bs ≡ false
unfolding accepts_from
at_reject zero p s bs = refl
at_reject (suc n) p s bs = refl

-- a state that isn't there leads to reject at once
at_missing : (n : ℕ) (p : Parser) (s : Store) (q : ℕ) (bs : Bits) → length p.states ≤ q → accepts_from (suc n) p s (state q) bs ≡ false
unfolding accepts_from
at_missing n p s q bs l =
    ap (λ z. from_state n p s z bs) (get_or_past p.states q no_state l) ∙ ap (λ b. cond b (accepts_from n p s reject bs) false) (le-leb 0 (length bs) (omega arith)) ∙ at_reject n p s bs

module _ (p : Parser) (right : fault p ≡ 0) where
  pub stepping : (n : ℕ) (s : Store) (t : Target) (bs : Bits) → length bs < n → named_target (length p.states) t ≡ true
      → accepts_from n p s t bs ≡ is_accept (steps p (at_first t s) bs).target
  unfolding accepts_from is_accept needs transition
  stepping zero s t bs l there = absurd (not-suc-le-zero l)
  stepping (suc n) s accept [] l there = sym (ap (λ x. is_accept x.target) (steps_none p (at_first accept s)))
  stepping (suc n) s accept (b ∷ bs) l there = ne_eqb (suc (length bs)) 0 (λ e. omega arith) ∙ sym (ends p s b bs)
  stepping (suc n) s reject bs l there = sym (rejects p s [] bs)
  stepping (suc n) s (state q) bs l there =
      let z : State = get_or p.states q no_state in
      let k : ℕ = width p z in
      let u : Store = run_ops p.sizes z.ops (take k bs) s in
      let t : Target = select u z.keys z.cases z.otherwise in
      let known : Sound p.sizes (length p.states) z = sound_at p right q (ltb-true _ _ there) in
      let f : Bool → Bool = λ b. cond b (accepts_from n p u t (drop k bs)) false in
      ⊎_elim
      (λ (short : length bs < k). ap f (lt-leb k (length bs) short) ∙ sym (ap (λ x. is_accept x.target) (waiting p (initial q s) bs (omega arith))))
      (λ (long : k ≤ length bs).
      ap f (le-leb k (length bs) long)
      ∙ stepping n u t (drop k bs) (omega (arith, known.takes, length-drop k bs))
      (select-named (length p.states) u z.keys z.cases z.otherwise known.named_cases known.named_otherwise)
      ∙ sym (ap (λ x. is_accept x.target) (going_on p (initial q s) k bs known.takes (omega arith) long)))
      (cases_lt (length bs) k)

  -- of a target that is there, any time above the input's length comes to the same
  enough : (n : ℕ) (s : Store) (t : Target) (bs : Bits) → length bs < suc n → named_target (length p.states) t ≡ true
      → accepts_from (suc (suc n)) p s t bs ≡ accepts_from (suc n) p s t bs
  enough n s t bs l there = stepping (suc (suc n)) s t bs (omega arith) there ∙ sym (stepping (suc n) s t bs l there)

pub bit_by_bit : BitByBit
unfolding BitByBit
bit_by_bit p q s bs right l ok are = stepping p right (suc (length bs)) s (state q) bs (omega arith) (lt-ltb _ _ l)

pub time_is_nothing : TimeIsNothing
unfolding TimeIsNothing
time_is_nothing zero p s t bs right l = absurd (not-suc-le-zero l)
time_is_nothing (suc n) p s accept bs right l = enough p right n s accept bs l refl
time_is_nothing (suc n) p s reject bs right l = enough p right n s reject bs l refl
time_is_nothing (suc n) p s (state q) bs right l =
    ⊎_elim (λ (there : q < length p.states). enough p right n s (state q) bs l (lt-ltb _ _ there))
    (λ (missing : length p.states ≤ q). at_missing (suc n) p s q bs missing ∙ sym (at_missing n p s q bs missing)) (cases_lt q (length p.states))
