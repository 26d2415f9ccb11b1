-- What one bit does to a configuration by value. Assumes nothing.
use Rattle.std.proofs.Common.{◌≡◌, ℕ, suc, ◌+◌, ◌*◌, ◌/◌, ◌%◌, ◌^◌, ◌<◌, ◌≤◌, true, ◌⊎◌, [], ◌∷◌, ◌++◌, length, get_or, sym, refl, ap, ◌∙◌, subst, ap₂, ⊎_elim, mul_assoc, mul_comm, pow-suc, arith, pow_mono}
use Rattle.std.proofs.lemmas.Nat.{shl_whole, shl_below}
use Rattle.std.proofs.lemmas.List.{length-append}
use Rattle.std.proofs.lemmas.Bool.{and_from, and_parts, lt-ltb, ltb-true, cases_lt, cases_order}
use Rattle.model.specs.Parser.{Bits, Target, state, accept, reject, State, Parser, run_ops, no_state, width}
use Rattle.model.specs.Refusal.{are_bits, fault, sum, widest}
use Rattle.model.specs.Config as C
use Rattle.model.specs.Config.{step, needs, transition}
use Rattle.model.proofs.Every.{every_append}
use Rattle.syntax.specs.View.{target_of}
use Rattle.machine.specs.View.{selected}
use Rattle.theory.specs.Good.{Good}
use Rattle.theory.specs.Number.{bits_number, number_bits, buffer_number, number_buffer}
use Rattle.theory.proofs.BitRows.{buffer_number_below, number-buffer_number}
use Rattle.theory.proofs.Waiting.{step_waits, step_completes}
use Rattle.product.specs.declared.config.Config.{Config}
use Rattle.product.specs.View.{config_in, store_of, Stands}
use Rattle.product.proofs.BitNumbers.{are_bits-number_buffer, buffer_number_buffer}
use Rattle.product.proofs.Numbers.{within, next_good}
use Rattle.product.proofs.Packing.{same_config, one_buffer, one_below}

-- buffers and their numbers

double : (a m : ℕ) → a * (m * 2) ≡ 2 * (a * m)
double a m = sym (mul_assoc a m 2) ∙ mul_comm (a * m) 2

buffer_push : (bs : Bits) (b : ℕ) → buffer_number (bs ++ b ∷ []) ≡ buffer_number bs + (1 + b) * 2 ^ length bs
buffer_push [] b = omega arith
buffer_push (x ∷ bs) b =
    let e : (1 + b) * 2 ^ suc (length bs) ≡ 2 * ((1 + b) * 2 ^ length bs) = ap (λ m. (1 + b) * m) (pow-suc 2 (length bs)) ∙ double (1 + b) (2 ^ length bs) in
    omega (arith, e, buffer_push bs b)

buffer_above : (bs : Bits) → 2 ^ length bs ≤ buffer_number bs
buffer_above [] = omega arith
buffer_above (x ∷ bs) = omega (arith, buffer_above bs, pow-suc 2 (length bs))

-- the highest 1 of a number stands in one place
log_unique : (i j k : ℕ) → 2 ^ i ≤ k → k < 2 * 2 ^ i → 2 ^ j ≤ k → k < 2 ^ suc j → i ≡ j
log_unique i j k a b c d =
    ⊎_elim (λ e. e)
    (⊎_elim (λ (l : i < j). let up : 2 ^ suc i ≤ 2 ^ j = pow_mono l in absurd (omega (arith, up, pow-suc 2 i)))
    (λ (l : j < i). let up : 2 ^ suc j ≤ 2 ^ i = pow_mono l in absurd (omega (arith, up))))
    (cases_order i j)

-- the lowest bits of a number are those that it begins with
number_bits_front : (bs rest : Bits) → are_bits bs ≡ true → number_bits (length bs) (bits_number (bs ++ rest)) ≡ bs
number_bits_front [] rest bits = refl
number_bits_front (b ∷ bs) rest bits =
    let two = and_parts _ _ bits in
    let l : b < 2 = ltb-true b 2 two.0 in
    let low : (b + 2 * bits_number (bs ++ rest)) % 2 ≡ b = omega arith in
    let high : (b + 2 * bits_number (bs ++ rest)) / 2 ≡ bits_number (bs ++ rest) = omega arith in
    ap₂ (λ c k. c ∷ number_bits (length bs) k) low high ∙ ap (λ cs. b ∷ cs) (number_bits_front bs rest two.1)

-- `buffer + ((1 + bit) << held)`
module _ (held bit : ℕ) (l : held < 60) (small : bit < 2) where
  pub push_shift : ((1 + bit) * 2 ^ held) % 2 ^ 64 ≡ (1 + bit) * 2 ^ held
  push_shift = shl_whole (1 + bit) 2 held 64 (omega arith) (omega arith)

  pub push_below : (1 + bit) * 2 ^ held < 2 ^ 62
  push_below =
      let few : 2 + held ≤ 62 = omega arith in
      let up : 2 ^ (2 + held) ≤ 2 ^ 62 = pow_mono few in
      let a : (1 + bit) * 2 ^ held < 2 ^ (2 + held) = shl_below (1 + bit) 2 held (omega arith) in
      omega (arith, up, a)

-- a buffer of few bits is a small number, and holds few
module _ (w buffer : ℕ) (few : w ≤ 59) (below : buffer < 2 ^ w) where
  pub buffer_small : buffer < 2 ^ 60
  buffer_small = let l : w ≤ 60 = omega arith in let up : 2 ^ w ≤ 2 ^ 60 = pow_mono l in omega (arith, up)

  pub held_few : (n : ℕ) → 2 ^ n ≤ buffer → n < 60
  held_few n low = ⊎_elim (λ (l : n < 60). l) (λ (l : 60 ≤ n). let up : 2 ^ 60 ≤ 2 ^ n = pow_mono l in absurd (omega (arith, up, buffer_small))) (cases_lt n 60)

-- what a state needs
pub needs_state : (p : Parser) {t : Target} {q : ℕ} → t ≡ state q → needs p t ≡ width p (get_or p.states q no_state)
unfolding needs
needs_state p e = ap (needs p) e

-- a bit leads from c to r
pub record Stepped (p : Parser) (c : Config) (b : ℕ) (r : Config) : Type 0 where
  pub same : config_in p r ≡ step p (config_in p c) b
  pub stands : Stands p r

module _ (p : Parser) (right : fault p ≡ 0) (i : ℕ) (there : i < length p.states) (c : Config) (stands : Stands p c) (b : ℕ) (bit : b < 2) where
  abbrev wide : ℕ
  wide = widest p.sizes p.states

  abbrev bits : Bits
  bits = number_buffer wide c.buffer

  abbrev grown : Bits
  grown = bits ++ b ∷ []

  bits_number_is : buffer_number bits ≡ c.buffer
  bits_number_is = buffer_number_buffer wide c.buffer stands.some stands.buffer

  grown_bits : are_bits grown ≡ true
  grown_bits = every_append _ bits (b ∷ []) (are_bits-number_buffer wide c.buffer) (and_from _ _ (lt-ltb b 2 bit) refl)

  -- what is led to stands, if its numbers do
  stands_after : (r : Config) → config_in p r ≡ step p (config_in p c) b → r.headers < 2 ^ sum p.sizes → 0 < r.buffer → r.buffer < 2 ^ wide → Stepped p c b r
  stands_after r same low some under =
      record {
        same = same;
        stands = record { good = subst (Good p) (sym same) (next_good p right i there (config_in p c) stands.good b bit); headers = low; some = some; buffer = under };
      }

  module _ (n : ℕ) (low : 2 ^ n ≤ c.buffer) (high : c.buffer < 2 * 2 ^ n) where
    pub held : n ≡ length bits
    held =
        log_unique n (length bits) c.buffer low high (subst (λ k. 2 ^ length bits ≤ k) bits_number_is (buffer_above bits))
        (subst (λ k. k < 2 ^ suc (length bits)) bits_number_is (buffer_number_below bits (are_bits-number_buffer wide c.buffer) (suc (length bits)) (omega arith)))

    grown_long : length grown ≡ n + 1
    grown_long = omega (arith, length-append bits (b ∷ []), held)

    grown_number : buffer_number grown ≡ c.buffer + (1 + b) * 2 ^ n
    grown_number = buffer_push bits b ∙ ap₂ (λ k m. k + (1 + b) * 2 ^ m) bits_number_is (sym held)

    -- a bit that is not the last
    pub waits : (r : Config) → target_of r.target ≡ target_of c.target → r.headers ≡ c.headers → r.buffer ≡ c.buffer + (1 + b) * 2 ^ n
        → n + 1 < needs p (target_of c.target) → Stepped p c b r
    waits r target_is headers_is buffer_is l =
        let under = within p right i there (config_in p c) stands.good in
        let room : length grown < wide = omega (arith, grown_long, under, l) in
        let is : r.buffer ≡ buffer_number grown = buffer_is ∙ sym grown_number in
        let same : config_in p r ≡ step p (config_in p c) b =
        same_config target_is (ap (store_of p.sizes) headers_is) (ap (number_buffer wide) is ∙ number-buffer_number grown grown_bits wide room)
        ∙ sym (step_waits p (config_in p c) b (omega (arith, held, l))) in
        stands_after r same (omega (arith, headers_is, stands.headers)) (omega (arith, buffer_is, stands.some))
        (subst (λ k. k < 2 ^ wide) (sym is) (buffer_number_below grown grown_bits wide room))

    -- the last bit that a state takes
    module _ (q m : ℕ) (target_is : target_of c.target ≡ state q) (m_is : m ≡ width p (get_or p.states q no_state)) (full : m ≤ n + 1) where
      abbrev at : State
      at = get_or p.states q no_state

      needs_is : needs p (target_of c.target) ≡ m
      needs_is = needs_state p target_is ∙ sym m_is

      taken : number_bits m (c.buffer + (1 + b) * 2 ^ n) ≡ grown
      taken =
          let long : m ≡ length grown = omega (arith, grown_long, held, needs_is, stands.good.waits) in
          ap₂ number_bits long (sym grown_number) ∙ number_bits_front grown (1 ∷ []) grown_bits

      walked : transition p (config_in p c) grown (target_of c.target)
          ≡ record { target = selected (run_ops p.sizes at.ops grown (config_in p c).store) at; store = run_ops p.sizes at.ops grown (config_in p c).store; buffer = [] }
      unfolding transition
      walked = ap (transition p (config_in p c) grown) target_is

      pub leaves : (r : Config) → store_of p.sizes r.headers ≡ run_ops p.sizes at.ops (number_bits m (c.buffer + (1 + b) * 2 ^ n)) (store_of p.sizes c.headers)
          → target_of r.target ≡ selected (store_of p.sizes r.headers) at → r.headers < 2 ^ sum p.sizes → r.buffer ≡ 1 → Stepped p c b r
      leaves r done leads low empty =
          let store : store_of p.sizes r.headers ≡ run_ops p.sizes at.ops grown (store_of p.sizes c.headers)
          = done ∙ ap (λ bs. run_ops p.sizes at.ops bs (store_of p.sizes c.headers)) taken in
          let same : config_in p r ≡ step p (config_in p c) b =
          same_config (leads ∙ ap (λ s. selected s at) store) store (ap (number_buffer wide) empty ∙ one_buffer wide) ∙ sym walked
          ∙ sym (step_completes p (config_in p c) b (omega (arith, held, needs_is, full))) in
          stands_after r same low (omega (arith, empty)) (omega (arith, empty, one_below p right i there))

  -- one more bit after an end
  to_reject : C.Config
  to_reject = record { target = reject; store = store_of p.sizes c.headers; buffer = [] }

  ended : (t : Target) → (t ≡ accept) ⊎ (t ≡ reject) → (needs p t ≤ 1) × (transition p (config_in p c) grown t ≡ to_reject)
  unfolding needs transition to_reject
  ended t is =
      ⊎_elim
      (λ e. (subst (λ u. needs p u ≤ 1) (sym e) (omega arith), ap (transition p (config_in p c) grown) e))
      (λ e. (subst (λ u. needs p u ≤ 1) (sym e) (omega arith), ap (transition p (config_in p c) grown) e)) is

  pub ends : (target_of c.target ≡ accept) ⊎ (target_of c.target ≡ reject) → (r : Config) → target_of r.target ≡ reject → r.headers ≡ c.headers → r.buffer ≡ 1 → Stepped p c b r
  unfolding to_reject
  ends is r target_is headers_is empty =
      let end = ended (target_of c.target) is in
      let same : config_in p r ≡ step p (config_in p c) b =
      same_config target_is (ap (store_of p.sizes) headers_is) (ap (number_buffer wide) empty ∙ one_buffer wide) ∙ sym end.1
      ∙ sym (step_completes p (config_in p c) b (omega (arith, end.0))) in
      stands_after r same (omega (arith, headers_is, stands.headers)) (omega (arith, empty)) (omega (arith, empty, one_below p right i there))
