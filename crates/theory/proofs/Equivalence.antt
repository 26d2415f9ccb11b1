-- Two parsers as two machines: equivalence is bisimulation, both ways and of three, and a difference is short.
use Rattle.std.proofs.Common.{◌≡◌, ℕ, zero, suc, ◌+◌, ◌<◌, ◌≤◌, Bool, true, false, cond, eqb, leb, [], ◌∷◌, length, get_or, take, drop, sym, refl, ap, ◌∙◌, subst, ⊎_elim, arith}
use Rattle.std.proofs.lemmas.List.{get_or_past}
use Rattle.std.proofs.lemmas.Bool.{cases_lt, ltb-true, le-leb, eqb-true, eqb-false, and_parts}
use Rattle.model.specs.Parser.{Bits, state, reject, Parser, Store, accepts, accepts_from, width, no_state, run_ops, select}
use Rattle.model.specs.Refusal.{are_bits, store_fits, fault}
use Rattle.model.specs.Request.{Comparison, first_of, compare_fits}
use Rattle.model.specs.Promise.{config_count}
use Rattle.model.specs.Config.{Config, needs, transition, step, steps, is_accept, initial}
use Rattle.model.specs.Theory.{BitByBit, BisimilarIsEquivalent, EquivalentIsBisimilar, BothWays, ShortIsEnough}
use Rattle.theory.specs.Machine.{run, Agree, Numbered}
use Rattle.theory.specs.Good.{machine, Good}
use Rattle.theory.specs.Number.{config_number}
use Rattle.theory.specs.Statement.{BisimilarIsEquivalentOf, AcceptAlike, AcceptingAlikeIsKept}
use Rattle.theory.proofs.Machines.{bisimulation_same, same_bisimulates}
use Rattle.theory.proofs.Short.{short}
use Rattle.theory.proofs.Good.{needs-widest, good_initial, good_step}
use Rattle.theory.proofs.Waiting.{steps-run, steps_none, steps_more, step_completes}
use Rattle.theory.proofs.Stepping.{bit_by_bit, rejected}
use Rattle.theory.proofs.Numbering.{number_below, number_injective}

-- from a state that isn't there nothing is accepted, at once or bit by bit
module _ (p : Parser) (q : ℕ) (s : Store) (absent : length p.states ≤ q) where
  no_such : get_or p.states q no_state ≡ no_state
  no_such = get_or_past p.states q no_state absent

  nothing_at_once : (bs : Bits) → accepts p s q bs ≡ false
  unfolding accepts_from
  nothing_at_once bs =
      ap (λ z. cond (leb (width p z) (length bs)) (let u : Store = run_ops p.sizes z.ops (take (width p z) bs) s in accepts_from (length bs) p u (select u z.keys z.cases z.otherwise) (drop (width p z) bs)) false) no_such
      ∙ ap (λ b. cond b (accepts_from (length bs) p s reject bs) false) (le-leb 0 (length bs) (omega arith)) ∙ go (length bs)
    where
      go : (n : ℕ) → accepts_from n p s reject bs ≡ false
      go zero = refl
      go (suc n) = refl

  nothing_by_bits : (bs : Bits) → is_accept (steps p (initial q s) bs).target ≡ false
  unfolding is_accept needs transition
  nothing_by_bits [] = ap (λ a. is_accept a.target) (steps_none p (initial q s))
  nothing_by_bits (b ∷ bs) =
      let few : needs p (state q) ≤ 0 + 1 = subst (λ z. width p z ≤ 1) (sym no_such) (omega arith) in
      let led : (step p (initial q s) b).target ≡ reject =
      ap (λ a. a.target) (step_completes p (initial q s) b few)
      ∙ ap (λ z. let t : Store = run_ops p.sizes z.ops (b ∷ []) s in select t z.keys z.cases z.otherwise) no_such in
      ap (λ a. is_accept a.target) (steps_more p (initial q s) b bs) ∙ rejected p (step p (initial q s) b) led bs

-- so bit by bit comes to the same from any state
by_bits : (p : Parser) → fault p ≡ 0 → (q : ℕ) (s : Store) (bs : Bits) → store_fits p.sizes s ≡ true → are_bits bs ≡ true
    → accepts p s q bs ≡ is_accept (run (machine p) (initial q s) bs).target
unfolding BitByBit
by_bits p right q s bs fits bits =
    ⊎_elim (λ (l : q < length p.states). bit_by_bit p q s bs right l fits bits) (λ (l : length p.states ≤ q). nothing_at_once p q s l bs ∙ sym (nothing_by_bits p q s l bs)) (cases_lt q (length p.states))
    ∙ ap (λ a. is_accept a.target) (steps-run p (initial q s) bs)

-- the two machines agree after an input just if the parsers do
agrees : (c : Comparison) → fault c.first ≡ 0 → fault c.second ≡ 0 → (s t : Store) (bs : Bits) → store_fits c.first.sizes s ≡ true → store_fits c.second.sizes t ≡ true → are_bits bs ≡ true
    → Agree (machine c.first) (machine c.second) (initial c.first_state s) (initial c.second_state t) bs → accepts c.first s c.first_state bs ≡ accepts c.second t c.second_state bs
agrees c right₁ right₂ s t bs fits₁ fits₂ bits e = by_bits c.first right₁ c.first_state s bs fits₁ bits ∙ e ∙ sym (by_bits c.second right₂ c.second_state t bs fits₂ bits)

agreed : (c : Comparison) → fault c.first ≡ 0 → fault c.second ≡ 0 → (s t : Store) (bs : Bits) → store_fits c.first.sizes s ≡ true → store_fits c.second.sizes t ≡ true → are_bits bs ≡ true
    → accepts c.first s c.first_state bs ≡ accepts c.second t c.second_state bs → Agree (machine c.first) (machine c.second) (initial c.first_state s) (initial c.second_state t) bs
agreed c right₁ right₂ s t bs fits₁ fits₂ bits e = sym (by_bits c.first right₁ c.first_state s bs fits₁ bits) ∙ e ∙ by_bits c.second right₂ c.second_state t bs fits₂ bits

pub bisimilar_of : (r : Config → Config → Type 0) → BisimilarIsEquivalentOf r
bisimilar_of r c right₁ right₂ kept first s t bs fits₁ fits₂ bits =
    agrees c right₁ right₂ s t bs fits₁ fits₂ bits
    (bisimulation_same (machine c.first) (machine c.second) r kept (initial c.first_state s) (initial c.second_state t) (first s t fits₁ fits₂) bs bits)

pub bisimilar_is_equivalent : BisimilarIsEquivalent
unfolding BisimilarIsEquivalent
bisimilar_is_equivalent c r = bisimilar_of r c

pub accepting_alike : AcceptingAlikeIsKept
accepting_alike c right₁ right₂ same =
    (same_bisimulates (machine c.first) (machine c.second), λ s t fits₁ fits₂ bs bits. agreed c right₁ right₂ s t bs fits₁ fits₂ bits (same s t bs fits₁ fits₂ bits))

pub equivalent_is_bisimilar : EquivalentIsBisimilar
unfolding EquivalentIsBisimilar
equivalent_is_bisimilar c right₁ right₂ same = (AcceptAlike c, accepting_alike c right₁ right₂ same)

pub both_ways : BothWays
unfolding BothWays
both_ways = (
  λ c same s t bs fits₁ fits₂ bits. sym (same t s bs fits₂ fits₁ bits),
  λ p q r i j k m fits e f s t bs fits₁ fits₂ bits. e s m bs fits₁ fits bits ∙ f m t bs fits fits₂ bits,
)

-- good configurations are numbered, where there is a state at all
pub numbered : (p : Parser) → fault p ≡ 0 → 0 < length p.states → Numbered (machine p) (Good p) (config_count p)
numbered p right some =
    record {
      number = config_number p;
      below = λ a g. number_below p a g (needs-widest p right 0 some a.target g.there);
      injective = λ a b g h e. number_injective p a b g (needs-widest p right 0 some a.target g.there) h (needs-widest p right 0 some b.target h.there) e;
      stays = λ a k l g. good_step p right a k l g;
    }

-- what is known of a comparison that is not refused
first_right : (a b : ℕ) → first_of a b ≡ 0 → (a ≡ 0) × (b ≡ 0)
first_right a b e = go (eqb a 0) refl e
  where
    go : (t : Bool) → eqb a 0 ≡ t → cond t b a ≡ 0 → (a ≡ 0) × (b ≡ 0)
    go true is z = (eqb-true a 0 is, z)
    go false is z = absurd (eqb-false a 0 is z)

fits_right : (t : Bool) → ◌≡◌ {A = ℕ} (cond t 0 7) 0 → t ≡ true
fits_right true e = refl
fits_right false e = absurd (omega (arith, e))

pub short_is_enough : ShortIsEnough
unfolding ShortIsEnough
short_is_enough c s t bs ok (fits₁, fits₂, bits, apart) =
    let first = first_right (fault c.first) _ ok in
    let second = first_right (fault c.second) _ first.1 in
    let there = and_parts _ _ (fits_right (compare_fits c) second.1) in
    let l : c.first_state < length c.first.states = ltb-true _ _ there.0 in
    let k : c.second_state < length c.second.states = ltb-true _ _ there.1 in
    let a : Config = initial c.first_state s in
    let b : Config = initial c.second_state t in
    let found =
    short (machine c.first) (machine c.second) (numbered c.first first.0 (omega arith)) (numbered c.second second.0 (omega arith)) a b (good_initial c.first first.0 c.first_state s l fits₁)
    (good_initial c.second second.0 c.second_state t k fits₂) bs (record { bits = bits; apart = λ e. apart (agrees c first.0 second.0 s t bs fits₁ fits₂ bits e) }) in
    let v : Bits = found.0 in
    let d = found.1.0 in
    (s, t, (v, ((fits₁, fits₂, d.bits, λ e. d.apart (agreed c first.0 second.0 s t v fits₁ fits₂ d.bits e)), found.1.1)))
