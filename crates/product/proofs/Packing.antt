-- A configuration by value, packed into a number and back. Assumes nothing.
use Rattle.std.proofs.Common.{◌≡◌, ℕ, zero, suc, ◌+◌, ◌*◌, ◌/◌, ◌%◌, ◌^◌, ◌<◌, ◌≤◌, true, cond, eqb, ltb, List, [], length, sym, refl, ap, ◌∙◌, subst, ap₂, ⊎_elim, mod-eq_of_lt, arith}
use lib.Bits.{bit_or}
use Rattle.std.proofs.lemmas.Nat.{pow_pos, pow_below, or_shifted, mod_low, mod_below}
use Rattle.std.proofs.lemmas.Bool.{lt-ltb, le-ltb, eq-eqb, ne_eqb, cond-true, cond-false, cases_lt}
use Rattle.model.specs.Parser.{Target, state, accept, reject, Parser, Store}
use Rattle.model.specs.Refusal.{fault, sum, widest}
use Rattle.model.specs.Promise.{config_count}
use Rattle.model.specs.Config as C
use Rattle.model.specs.Config.{is_accept, initial}
use Rattle.syntax.specs.View.{target_of}
use Rattle.theory.specs.Good.{Good}
use Rattle.theory.specs.Number.{number_target, number_buffer, target_number, config_number, number_config, buffer_number, bits_number, joined}
use Rattle.theory.proofs.Facts.{widest_some}
use Rattle.product.specs.declared.config.Config.{Config}
use Rattle.product.specs.Pair.{good_number, header_number}
use Rattle.product.specs.View.{config_in, store_of, Stands}
use Rattle.product.proofs.BitNumbers.{buffer_number_buffer, store_of_number, store_of_fits}
use Rattle.product.proofs.Exponents.{first_factor}
use Rattle.product.proofs.Numbers.{number_again, good_config, below, first_good}

-- targets of numbers

module _ {n m : ℕ} (k : ℕ) (is : n ≡ m) where
  pub number_is_state : k < n → state k ≡ number_target m k
  number_is_state l = sym (cond-true (ltb k m) _ _ (lt-ltb k m (omega arith)))

  module _ (past : n ≤ k) where
    past_states : number_target m k ≡ cond (eqb k m) accept reject
    past_states = cond-false (ltb k m) _ _ (le-ltb k m (omega arith))

    pub number_is_accept : k ≡ n → accept ≡ number_target m k
    number_is_accept e = sym (past_states ∙ cond-true (eqb k m) _ _ (eq-eqb k m (omega arith)))

    pub number_is_reject : (k ≡ n → ⊥) → reject ≡ number_target m k
    number_is_reject ne = sym (past_states ∙ cond-false (eqb k m) _ _ (ne_eqb k m (λ e. ne (omega arith))))

-- a buffer's number is never 0

no_buffer : (w : ℕ) → number_buffer w 0 ≡ []
no_buffer zero = refl
no_buffer (suc w) = refl

pub one_buffer : (w : ℕ) → number_buffer w 1 ≡ []
one_buffer zero = refl
one_buffer (suc w) = refl

module _ (p : Parser) (right : fault p ≡ 0) (i : ℕ) (there : i < length p.states) where
  pub one_below : 1 < 2 ^ widest p.sizes p.states
  one_below = pow_below 0 (widest p.sizes p.states) (widest_some p right i there)

  pub buffer_some : (k : ℕ) → good_number p k ≡ true → 0 < k % 2 ^ widest p.sizes p.states
  buffer_some k good =
      let w : ℕ = widest p.sizes p.states in
      let high : ℕ = target_number (length p.states) (number_config p k).target * 2 ^ sum p.sizes + bits_number (joined (number_config p k).store) in
      let at_none : k % 2 ^ w ≡ 0 → 1 ≡ k % 2 ^ w = λ z.
      sym (mod_low high w 1 one_below)
      ∙ sym (ap (λ b. (high * 2 ^ w + b) % 2 ^ w) (ap (λ x. buffer_number (number_buffer w x)) z ∙ ap buffer_number (no_buffer w)))
      ∙ ap (λ x. x % 2 ^ w) (number_again p k good) in
      ⊎_elim (λ (z : k % 2 ^ w < 1). absurd (omega (arith, at_none (omega arith)))) (λ (z : 1 ≤ k % 2 ^ w). z) (cases_lt (k % 2 ^ w) 1)

-- configurations with the same parts
pub same_config : {t u : Target} {s v : Store} {bs cs : List ℕ} → t ≡ u → s ≡ v → bs ≡ cs
    → ◌≡◌ {A = C.Config} (record { target = t; store = s; buffer = bs }) (record { target = u; store = v; buffer = cs })
same_config {t} {u} {s} {v} {bs} {cs} d e f =
    ap (λ x. record { target = x; store = s; buffer = bs }) d ∙ ap₂ (λ x y. record { target = u; store = x; buffer = y }) e f

-- from a number
module _ (p : Parser) (k : ℕ) (r : Config) (target_is : target_of r.target ≡ (number_config p k).target) (headers_is : r.headers ≡ header_number p k)
    (buffer_is : r.buffer ≡ k % 2 ^ widest p.sizes p.states) where
  pub decoded : config_in p r ≡ number_config p k
  decoded = same_config target_is (ap (store_of p.sizes) headers_is) (ap (number_buffer (widest p.sizes p.states)) buffer_is)

  pub decoded_stands : fault p ≡ 0 → (i : ℕ) → i < length p.states → good_number p k ≡ true → Stands p r
  decoded_stands right i there good =
      let w : ℕ = widest p.sizes p.states in
      let h : ℕ = sum p.sizes in
      record {
        good = subst (Good p) (sym decoded) (good_config p k good);
        headers = subst (λ x. x < 2 ^ h) (sym headers_is) (mod_below (k / 2 ^ w) (2 ^ h) (pow_pos h));
        some = subst (λ x. 0 < x) (sym buffer_is) (buffer_some p right i there k good);
        buffer = subst (λ x. x < 2 ^ w) (sym buffer_is) (mod_below k (2 ^ w) (pow_pos w));
      }

-- to a number

packed : (t h w s b : ℕ) → s < 2 ^ h → b < 2 ^ w → (t * 2 ^ h + s) * 2 ^ w + b ≤ 2 ^ 60
    → bit_or ((bit_or ((t * 2 ^ h) % 2 ^ 64) s * 2 ^ w) % 2 ^ 64) b ≡ (t * 2 ^ h + s) * 2 ^ w + b
packed t h w s b s_below b_below small =
    let more : t * 2 ^ h + s ≤ (t * 2 ^ h + s) * 2 ^ w = first_factor (t * 2 ^ h + s) (2 ^ w) (pow_pos w) in
    let one : t * 2 ^ h < 2 ^ 64 = omega (arith, more, small) in
    let two : (t * 2 ^ h + s) * 2 ^ w < 2 ^ 64 = omega (arith, small) in
    let inner : bit_or ((t * 2 ^ h) % 2 ^ 64) s ≡ t * 2 ^ h + s = ap (λ x. bit_or x s) (mod-eq_of_lt one) ∙ or_shifted t h s s_below in
    ap (λ x. bit_or ((x * 2 ^ w) % 2 ^ 64) b) inner ∙ ap (λ x. bit_or x b) (mod-eq_of_lt two) ∙ or_shifted (t * 2 ^ h + s) w b b_below

module _ (p : Parser) (c : Config) (stands : Stands p c) where
  number_parts : config_number p (config_in p c)
      ≡ (target_number (length p.states) (target_of c.target) * 2 ^ sum p.sizes + c.headers) * 2 ^ widest p.sizes p.states + c.buffer
  number_parts =
      ap₂ (λ s b. (target_number (length p.states) (target_of c.target) * 2 ^ sum p.sizes + s) * 2 ^ widest p.sizes p.states + b)
      (store_of_number p.sizes c.headers stands.headers) (buffer_number_buffer (widest p.sizes p.states) c.buffer stands.some stands.buffer)

  pub encoded : fault p ≡ 0 → (i : ℕ) → i < length p.states → config_count p ≤ 2 ^ 60 → {t h w : ℕ}
      → t ≡ target_number (length p.states) (target_of c.target) → h ≡ sum p.sizes → w ≡ widest p.sizes p.states
      → bit_or ((bit_or ((t * 2 ^ h) % 2 ^ 64) c.headers * 2 ^ w) % 2 ^ 64) c.buffer ≡ config_number p (config_in p c)
  encoded right i there small {t} {h} {w} t_is h-is w-is =
      let under = below p right i there (config_in p c) stands.good in
      let T : ℕ = target_number (length p.states) (target_of c.target) in
      ap (λ x. bit_or ((bit_or ((x * 2 ^ h) % 2 ^ 64) c.headers * 2 ^ w) % 2 ^ 64) c.buffer) t_is
      ∙ ap₂ (λ x y. bit_or ((bit_or ((T * 2 ^ x) % 2 ^ 64) c.headers * 2 ^ y) % 2 ^ 64) c.buffer) h-is w-is
      ∙ packed T (sum p.sizes) (widest p.sizes p.states) c.headers c.buffer stands.headers stands.buffer (omega (arith, under, small, number_parts))
      ∙ sym number_parts

-- where a parser is at first
module _ (p : Parser) (right : fault p ≡ 0) (q : ℕ) (there : q < length p.states) (i : ℕ) (r : Config) (target_is : target_of r.target ≡ state q) (headers_is : r.headers ≡ i) (buffer_is : r.buffer ≡ 1) where
  pub begun : config_in p r ≡ initial q (store_of p.sizes i)
  begun = same_config target_is (ap (store_of p.sizes) headers_is) (ap (number_buffer (widest p.sizes p.states)) buffer_is ∙ one_buffer (widest p.sizes p.states))

  pub begun_stands : i < 2 ^ sum p.sizes → Stands p r
  begun_stands l =
      record {
        good = subst (Good p) (sym begun) (first_good p right q there (store_of p.sizes i) (store_of_fits p.sizes i));
        headers = omega (arith, headers_is);
        some = omega (arith, buffer_is);
        buffer = omega (arith, buffer_is, one_below p right q there);
      }
