-- Two numbers in one: a pair is good and in bounds if its halves are. Assumes nothing.
use Rattle.std.proofs.Common.{◌≡◌, ℕ, ◌+◌, ◌*◌, ◌/◌, ◌%◌, ◌^◌, ◌<◌, ◌≤◌, true, ◌&&◌, sym, ap, ◌∙◌, subst, ap₂, ⊎_elim, arith, pow_mono}
use Rattle.std.proofs.lemmas.Nat.{div-mul-add, mod-mul-add, mul-add-lt, pow-add, pow_pos, one_shl, mul-le, div_below, mod_below, le-div}
use Rattle.std.proofs.lemmas.Bool.{and_from, and_parts, cases_lt}
use Rattle.model.specs.Parser.{Parser}
use Rattle.model.specs.Refusal.{sum}
use Rattle.model.specs.Promise.{config_count}
use Rattle.machine.specs.View.{parser_in, sizes_in}
use Rattle.product.specs.declared.product.Product.{Product}
use Rattle.product.specs.Pair.{good_number, store_count}
use Rattle.product.proofs.Exponents.{store_count_below}

module _ (p q : Parser) (x y : ℕ) (x_below : x < config_count p) (y_below : y < config_count q) {k : ℕ} (k_is : k ≡ x * config_count q + y) where
  pub pair_below : k < config_count p * config_count q
  pair_below = omega (arith, k_is, mul-add-lt x (config_count q) y (config_count p) x_below y_below)

  pub pair_good : good_number p x ≡ true → good_number q y ≡ true → (good_number p (k / config_count q) && good_number q (k % config_count q)) ≡ true
  pair_good x-good y-good =
      let high : k / config_count q ≡ x = ap (λ n. n / config_count q) k_is ∙ div-mul-add x (config_count q) y y_below in
      let low : k % config_count q ≡ y = ap (λ n. n % config_count q) k_is ∙ mod-mul-add x (config_count q) y y_below in
      and_from _ _ (ap (good_number p) high ∙ x-good) (ap (good_number q) low ∙ y-good)

-- a product of two counts against a limit, by division
module _ (f d limit : ℕ) (some : 0 < d) where
  pub product_above : limit / d < f → limit < f * d
  product_above l = ⊎_elim (λ (h : limit < f * d). h) (λ (h : f * d ≤ limit). absurd (omega (arith, le-div f limit d some h))) (cases_lt limit (f * d))

  pub product_within : f ≤ limit / d → f * d ≤ limit
  product_within l = ⊎_elim (λ (h : limit < f * d). absurd (omega (arith, div_below limit d f some h))) (λ (h : f * d ≤ limit). h) (cases_lt limit (f * d))

-- of a product of two machines
module _ (s : Product) where
  abbrev pub first_of : Parser
  first_of = parser_in s.first.side.machine

  abbrev pub second_of : Parser
  second_of = parser_in s.second.side.machine

  pub both_small : config_count first_of * config_count second_of ≤ 2 ^ 60
  both_small = subst (λ n. n ≤ 2 ^ 60) (ap₂ (λ a b. a * b) s.first.counted s.second.counted) s.small

  -- halves of a pair that is good
  module _ (k : ℕ) (good : (good_number first_of (k / config_count second_of) && good_number second_of (k % config_count second_of)) ≡ true) where
    pub first_half : {x : ℕ} → x ≡ k / config_count second_of → good_number first_of x ≡ true
    first_half is = ap (good_number first_of) is ∙ (and_parts _ _ good).0

    pub second_half : {y : ℕ} → y ≡ k % config_count second_of → good_number second_of y ≡ true
    second_half is = ap (good_number second_of) is ∙ (and_parts _ _ good).1

  pub stores_few : store_count first_of * store_count second_of ≤ config_count first_of * config_count second_of
  stores_few = mul-le (store_count first_of) (store_count second_of) (config_count first_of) (config_count second_of) (store_count_below first_of) (store_count_below second_of)

  -- the starts, as the code counts them
  headers_bits : s.first.side.header_bits + s.second.side.header_bits ≡ sum (sizes_in s.first.side.machine) + sum (sizes_in s.second.side.machine)
  headers_bits = ap₂ (λ a b. a + b) s.first.side.headers s.second.side.headers

  pub starts_narrow : s.first.side.header_bits + s.second.side.header_bits < 64
  starts_narrow =
      let e : ℕ = sum (sizes_in s.first.side.machine) + sum (sizes_in s.second.side.machine) in
      ⊎_elim (λ (l : e < 61). omega (arith, headers_bits))
      (λ (l : 61 ≤ e). let up : 2 ^ 61 ≤ 2 ^ e = pow_mono l in
      absurd (omega (arith, up, pow-add 2 (sum (sizes_in s.first.side.machine)) (sum (sizes_in s.second.side.machine)), stores_few, both_small)))
      (cases_lt e 61)

  pub starts_counted : (1 * 2 ^ (s.first.side.header_bits + s.second.side.header_bits)) % 2 ^ 64 ≡ store_count first_of * store_count second_of
  starts_counted =
      one_shl (s.first.side.header_bits + s.second.side.header_bits) 64 starts_narrow ∙ ap (λ e. 2 ^ e) headers_bits
      ∙ pow-add 2 (sum (sizes_in s.first.side.machine)) (sum (sizes_in s.second.side.machine))

  -- halves of the number of a start
  module _ (i : ℕ) (l : i < store_count first_of * store_count second_of) where
    pub first_start : i / 2 ^ s.second.side.header_bits < store_count first_of
    first_start = subst (λ e. i / 2 ^ e < store_count first_of) (sym s.second.side.headers) (div_below i (store_count second_of) (store_count first_of) (pow_pos (sum (sizes_in s.second.side.machine))) l)

  pub second_start : (i : ℕ) {r : ℕ} → r ≡ i % 2 ^ s.second.side.header_bits → r < store_count second_of
  second_start i is = omega (arith, is, ap (λ e. i % 2 ^ e) s.second.side.headers, mod_below i (store_count second_of) (pow_pos (sum (sizes_in s.second.side.machine))))
