-- The number of a configuration is below their count, and leads back to it.
use Rattle.std.proofs.Common.{◌≡◌, ℕ, suc, ◌+◌, ◌*◌, ◌/◌, ◌%◌, ◌^◌, ◌<◌, true, eqb, ltb, length, sym, refl, ap, ◌∙◌, subst, ap₂, mul_assoc, mul_comm, arith}
use Rattle.std.proofs.lemmas.Nat.{pow-add, mul-add-lt, shr_high, mod_low}
use Rattle.std.proofs.lemmas.Bool.{ltb-true, le-ltb, eq-eqb, ne_eqb, cond-true, cond-false}
use Rattle.model.specs.Parser.{Bits, Target, state, accept, reject, Parser, Store}
use Rattle.model.specs.Refusal.{named_target, sum, widest}
use Rattle.model.specs.Promise.{config_count}
use Rattle.model.specs.Config.{Config}
use Rattle.theory.specs.Good.{Good}
use Rattle.theory.specs.Number.{bits_number, number_bits, joined, parted, buffer_number, number_buffer, target_number, number_target, config_number, number_config}
use Rattle.theory.specs.Numbering.{WithinWidest, NumberingBelow, NumberingInverse, NumberingInjective}
use Rattle.theory.proofs.BitRows.{bits_number_below, number-bits_number, length-joined, are_bits-joined, parted-joined, buffer_number_below, number-buffer_number}

-- three numbers in one, the second of h bits and the third of w
module _ (t s b h w : ℕ) (s_below : s < 2 ^ h) (b_below : b < 2 ^ w) where
  packed_below : (n : ℕ) → t < n → (t * 2 ^ h + s) * 2 ^ w + b < n * 2 ^ (h + w)
  packed_below n l =
      subst (λ k. (t * 2 ^ h + s) * 2 ^ w + b < k)
      (mul_comm (2 ^ w) (2 ^ h * n) ∙ ap (λ k. k * 2 ^ w) (mul_comm (2 ^ h) n) ∙ mul_assoc n (2 ^ h) (2 ^ w) ∙ ap (λ k. n * k) (sym (pow-add 2 h w)))
      (mul-add-lt (t * 2 ^ h + s) (2 ^ w) b (2 ^ h * n) (mul-add-lt t (2 ^ h) s n l s_below) b_below)

  packed_low : ((t * 2 ^ h + s) * 2 ^ w + b) % 2 ^ w ≡ b
  packed_low = mod_low (t * 2 ^ h + s) w b b_below

  packed_middle : ((t * 2 ^ h + s) * 2 ^ w + b) / 2 ^ w % 2 ^ h ≡ s
  packed_middle = ap (λ k. k % 2 ^ h) (shr_high (t * 2 ^ h + s) w b b_below) ∙ mod_low t h s s_below

  packed_high : ((t * 2 ^ h + s) * 2 ^ w + b) / 2 ^ w / 2 ^ h ≡ t
  packed_high = ap (λ k. k / 2 ^ h) (shr_high (t * 2 ^ h + s) w b b_below) ∙ shr_high t h s s_below

-- targets

target_number_below : (n : ℕ) (t : Target) → named_target n t ≡ true → target_number n t < 2 + n
target_number_below n (state q) e = omega (arith, ltb-true q n e)
target_number_below n accept e = omega arith
target_number_below n reject e = omega arith

number-target_number : (n : ℕ) (t : Target) → named_target n t ≡ true → number_target n (target_number n t) ≡ t
number-target_number n (state q) e = cond-true (ltb q n) _ _ e
number-target_number n accept e = cond-false (ltb n n) _ _ (le-ltb n n (omega arith)) ∙ cond-true (eqb n n) _ _ (eq-eqb n n refl)
number-target_number n reject e =
    cond-false (ltb (suc n) n) _ _ (le-ltb (suc n) n (omega arith)) ∙ cond-false (eqb (suc n) n) _ _ (ne_eqb (suc n) n (λ q. omega arith))

-- configurations with the same parts
same_parts : (a : Config) (t : Target) (s : Store) (bs : Bits) → t ≡ a.target → s ≡ a.store → bs ≡ a.buffer → record { target = t; store = s; buffer = bs } ≡ a
same_parts a t s bs d e f =
    ap (λ u. record { target = u; store = s; buffer = bs }) d ∙ ap₂ (λ u cs. record { target = a.target; store = u; buffer = cs }) e f

module _ (p : Parser) (a : Config) (good : Good p a) (within : WithinWidest p a) where
  store_below : bits_number (joined a.store) < 2 ^ sum p.sizes
  store_below =
      subst (λ k. bits_number (joined a.store) < 2 ^ k) (length-joined p.sizes a.store good.fits)
      (bits_number_below (joined a.store) (are_bits-joined p.sizes a.store good.fits))

  buffer_within : length a.buffer < widest p.sizes p.states
  buffer_within = omega (arith, good.waits, within)

  buffer_below : buffer_number a.buffer < 2 ^ widest p.sizes p.states
  buffer_below = buffer_number_below a.buffer good.bits (widest p.sizes p.states) buffer_within

  pub number_below : config_number p a < config_count p
  number_below =
      packed_below (target_number (length p.states) a.target) (bits_number (joined a.store)) (buffer_number a.buffer) (sum p.sizes) (widest p.sizes p.states)
      store_below buffer_below (2 + length p.states) (target_number_below (length p.states) a.target good.there)

  pub number-config_number : number_config p (config_number p a) ≡ a
  number-config_number =
      let t : ℕ = target_number (length p.states) a.target in
      let s : ℕ = bits_number (joined a.store) in
      let b : ℕ = buffer_number a.buffer in
      let h : ℕ = sum p.sizes in
      let w : ℕ = widest p.sizes p.states in
      same_parts a _ _ _
      (ap (number_target (length p.states)) (packed_high t s b h w store_below buffer_below) ∙ number-target_number (length p.states) a.target good.there)
      (ap (λ k. parted p.sizes (number_bits h k)) (packed_middle t s b h w store_below buffer_below)
      ∙ ap (λ k. parted p.sizes (number_bits k s)) (sym (length-joined p.sizes a.store good.fits))
      ∙ ap (parted p.sizes) (number-bits_number (joined a.store) (are_bits-joined p.sizes a.store good.fits))
      ∙ parted-joined p.sizes a.store good.fits)
      (ap (number_buffer w) (packed_low t s b h w store_below buffer_below) ∙ number-buffer_number a.buffer good.bits w buffer_within)

pub number_injective :
    (p : Parser) (a b : Config) → Good p a → WithinWidest p a → Good p b → WithinWidest p b → config_number p a ≡ config_number p b → a ≡ b
number_injective p a b ga wa gb wb e =
    sym (number-config_number p a ga wa) ∙ ap (number_config p) e ∙ number-config_number p b gb wb

pub numbering_below : NumberingBelow
unfolding NumberingBelow
numbering_below = number_below

pub numbering_inverse : NumberingInverse
unfolding NumberingInverse
numbering_inverse = number-config_number

pub numbering_injective : NumberingInjective
unfolding NumberingInjective
numbering_injective = number_injective
