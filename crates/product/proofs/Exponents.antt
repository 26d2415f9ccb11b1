-- How many bits numbers of configurations have: counts by their exponents. Assumes nothing.
use Rattle.std.proofs.Common.{◌≡◌, ℕ, ◌+◌, ◌*◌, ◌/◌, ◌%◌, ◌^◌, ◌<◌, ◌≤◌, length, vec_items, vec_len, sym, ap, ◌∙◌, subst, ap₂, ⊎_elim, mul-le-mul_right, mod-eq_of_lt, mul-le-mul_left, arith, pow_mono}
use Rattle.std.proofs.lemmas.Nat.{pow_pos, pow-add, one_shl}
use Rattle.std.proofs.lemmas.List.{length-map}
use Rattle.std.proofs.lemmas.Bool.{cases_lt}
use Rattle.model.specs.Parser.{Parser}
use Rattle.model.specs.Refusal.{sum, widest}
use Rattle.model.specs.Promise.{config_count}
use Rattle.syntax.specs.View.{state_of}
use Rattle.theory.specs.Number.{number_target, number_config}
use Rattle.machine.specs.View.{parser_in, sizes_in, state_count}
use Rattle.machine.specs.declared.machine.Machine.{Machine}
use Rattle.machine.proofs.Facts.{right_from}
use Rattle.product.specs.Pair.{store_count}
use Rattle.product.specs.declared.counted.Counted.{Counted}
use Rattle.product.specs.declared.side.Side.{Side}

-- products with a power
twice_power : (n e : ℕ) → 2 * 2 ^ e ≤ (2 + n) * 2 ^ e
twice_power n e = mul-le-mul_right (2 ^ e) (omega arith)

pub exponent_small : (n e : ℕ) → (2 + n) * 2 ^ e ≤ 2 ^ 60 → e ≤ 59
exponent_small n e l =
    ⊎_elim (λ (h : e < 60). omega arith)
    (λ (h : 60 ≤ e). let up : 2 ^ 60 ≤ 2 ^ e = pow_mono h in absurd (omega (arith, up, twice_power n e, l))) (cases_lt e 60)

-- a count by its exponent is too large
pub too_wide : (n e : ℕ) → 60 < e → 2 ^ 60 < (2 + n) * 2 ^ e
too_wide n e h = let l : 60 ≤ e = omega arith in let up : 2 ^ 60 ≤ 2 ^ e = pow_mono l in omega (arith, up, twice_power n e)

-- where so many of 60 bits are left
module _ (n e left : ℕ) (whole : e + left ≡ 60) where
  split : 2 ^ left * 2 ^ e ≡ 2 ^ 60
  split = let all : left + e ≡ 60 = omega arith in sym (pow-add 2 left e) ∙ ap (λ k. 2 ^ k) all

  shifted : (1 * 2 ^ left) % 2 ^ 64 ≡ 2 ^ left
  shifted = one_shl left 64 (omega arith)

  pub too_many : {t : ℕ} → t ≡ 2 + n → (1 * 2 ^ left) % 2 ^ 64 < t → 2 ^ 60 < (2 + n) * 2 ^ e
  too_many {t} is h =
      let up : (2 ^ left + 1) * 2 ^ e ≤ (2 + n) * 2 ^ e = mul-le-mul_right (2 ^ e) (omega (arith, shifted, h, is)) in
      omega (arith, up, split, pow_pos e)

  pub few_enough : {t : ℕ} → t ≡ 2 + n → t ≤ (1 * 2 ^ left) % 2 ^ 64 → (2 + n) * 2 ^ e ≤ 2 ^ 60
  few_enough {t} is h =
      let up : (2 + n) * 2 ^ e ≤ 2 ^ left * 2 ^ e = mul-le-mul_right (2 ^ e) (omega (arith, shifted, h, is)) in
      omega (arith, up, split)

  pub count_shifted : {t : ℕ} → t ≡ 2 + n → t ≤ (1 * 2 ^ left) % 2 ^ 64 → (t * 2 ^ e) % 2 ^ 64 ≡ (2 + n) * 2 ^ e
  count_shifted {t} is h =
      let all : (2 + n) * 2 ^ e < 2 ^ 64 = omega (arith, few_enough is h) in
      ap (λ k. (k * 2 ^ e) % 2 ^ 64) is ∙ mod-eq_of_lt all

-- a machine's states, as the code counts them
pub states_counted : (m : Machine) {n : ℕ} → n ≡ vec_len m.checked.parser.states → n ≡ state_count m
states_counted m {n} is = is ∙ m.checked.parser.states.ok.0 ∙ sym (length-map (vec_items m.checked.parser.states) state_of)

pub states_few : (m : Machine) → state_count m ≤ 64
states_few m = (right_from (parser_in m) m.checked.right).states

-- a side's numbers fit where its count does
module _ (s : Side) where
  pub side_bits : s.header_bits + s.buffer_bits ≡ sum (sizes_in s.machine) + widest (sizes_in s.machine) (parser_in s.machine).states
  side_bits = ap₂ (λ a b. a + b) s.headers s.wide

  pub side_room : s.header_bits + s.buffer_bits ≤ 8192
  side_room = let right = right_from (parser_in s.machine) s.machine.checked.right in omega (arith, side_bits, right.room, right.narrow)

  -- its count, as the code decides on it
  pub side_wide : 60 < s.header_bits + s.buffer_bits → 2 ^ 60 < config_count (parser_in s.machine)
  side_wide l = too_wide (state_count s.machine) (sum (sizes_in s.machine) + widest (sizes_in s.machine) (parser_in s.machine).states) (omega (arith, side_bits))

  module _ {t : ℕ} (left : ℕ) (t_is : t ≡ 2 + state_count s.machine) (whole : s.header_bits + s.buffer_bits + left ≡ 60) where
    count_is : (2 + state_count s.machine) * 2 ^ (s.header_bits + s.buffer_bits) ≡ config_count (parser_in s.machine)
    count_is = ap (λ e. (2 + state_count s.machine) * 2 ^ e) side_bits

    pub side_many : (1 * 2 ^ left) % 2 ^ 64 < t → 2 ^ 60 < config_count (parser_in s.machine)
    side_many h = subst (λ n. 2 ^ 60 < n) count_is (too_many (state_count s.machine) (s.header_bits + s.buffer_bits) left whole t_is h)

    module _ (h : t ≤ (1 * 2 ^ left) % 2 ^ 64) where
      pub side_count : (t * 2 ^ (s.header_bits + s.buffer_bits)) % 2 ^ 64 ≡ config_count (parser_in s.machine)
      side_count = count_shifted (state_count s.machine) (s.header_bits + s.buffer_bits) left whole t_is h ∙ count_is

      pub side_few : config_count (parser_in s.machine) ≤ 2 ^ 60
      side_few = subst (λ n. n ≤ 2 ^ 60) count_is (few_enough (state_count s.machine) (s.header_bits + s.buffer_bits) left whole t_is h)

-- where a side is counted, its numbers fit
module _ (s : Counted) where
  pub count_small : config_count (parser_in s.side.machine) ≤ 2 ^ 60
  count_small = subst (λ n. n ≤ 2 ^ 60) s.counted s.small

  pub bits_small : sum (sizes_in s.side.machine) + widest (sizes_in s.side.machine) (parser_in s.side.machine).states ≤ 59
  bits_small = exponent_small (state_count s.side.machine) (sum (sizes_in s.side.machine) + widest (sizes_in s.side.machine) (parser_in s.side.machine).states) count_small

  pub headers-narrow : s.side.header_bits < 64
  headers-narrow = omega (arith, s.side.headers, bits_small)

  pub buffer_narrow : s.side.buffer_bits < 64
  buffer_narrow = omega (arith, s.side.wide, bits_small)

  -- where a configuration's number leads, by its highest bits
  pub high_bits : (k : ℕ) → number_target (state_count s.side.machine) (k / 2 ^ s.side.buffer_bits / 2 ^ s.side.header_bits) ≡ (number_config (parser_in s.side.machine) k).target
  high_bits k = ap₂ (λ w h. number_target (state_count s.side.machine) (k / 2 ^ w / 2 ^ h)) s.side.wide s.side.headers

-- counts are at least 1, and at least the contents of headers
pub store_count_below : (p : Parser) → store_count p ≤ config_count p
store_count_below p =
    let e : ℕ = sum p.sizes + widest p.sizes p.states in
    let l : sum p.sizes ≤ e = omega arith in
    let up : 2 ^ sum p.sizes ≤ 2 ^ e = pow_mono l in
    omega (arith, up, twice_power (length p.states) e)

pub count_some : (p : Parser) → 0 < config_count p
count_some p = omega (arith, store_count_below p, pow_pos (sum p.sizes))

-- each factor is at most the product of both
pub first_factor : (a b : ℕ) → 0 < b → a ≤ a * b
first_factor a b l = let up : a * 1 ≤ a * b = mul-le-mul_left a l in omega (arith, up)

pub second_factor : (a b : ℕ) → 0 < a → b ≤ a * b
second_factor a b l = let up : 1 * b ≤ a * b = mul-le-mul_right b l in omega (arith, up)
