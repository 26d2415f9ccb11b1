-- Good numbers of one parser are the numbers of its good configurations. Assumes nothing.
use Rattle.std.proofs.Common.{◌≡◌, ℕ, ◌%◌, ◌^◌, ◌<◌, true, eqb, ltb, length, sym, refl, ap, ◌∙◌, subst}
use Rattle.std.proofs.lemmas.Bool.{and_parts, and_from, eqb-true, eq-eqb, ltb-true, lt-ltb, cond_both}
use Rattle.model.specs.Parser.{Parser, Store}
use Rattle.model.specs.Refusal.{fault, named_target, store_fits, sum, widest}
use Rattle.model.specs.Promise.{config_count}
use Rattle.model.specs.Config.{Config, needs, step, initial}
use Rattle.theory.specs.Good.{Good}
use Rattle.theory.specs.Number.{bits_number, number_bits, joined, parted, number_target, config_number, number_config}
use Rattle.theory.specs.Numbering.{WithinWidest}
use Rattle.theory.proofs.Good.{needs-widest, good_initial, good_step}
use Rattle.theory.proofs.BitRows.{number-bits_number, length-joined, are_bits-joined, parted-joined}
use Rattle.theory.proofs.Numbering.{number_below, number-config_number}
use Rattle.product.specs.Pair.{good_number, next_number}
use Rattle.product.proofs.BitNumbers.{store_of_fits, are_bits-number_buffer}

-- a target of a number is always there
number_target_there : (n k : ℕ) → named_target n (number_target n k) ≡ true
number_target_there n k =
    cond_both (ltb k n) _ _ (λ t. named_target n t ≡ true) (λ e. e) (λ e. cond_both (eqb k n) _ _ (λ t. named_target n t ≡ true) (λ d. refl) (λ d. refl))

-- a good number leads back to itself, by a good configuration
module _ (p : Parser) (k : ℕ) (good : good_number p k ≡ true) where
  pub number_again : config_number p (number_config p k) ≡ k
  number_again = eqb-true _ _ (and_parts _ _ good).0

  pub good_config : Good p (number_config p k)
  good_config =
      record {
        there = number_target_there (length p.states) _;
        fits = store_of_fits p.sizes _;
        bits = are_bits-number_buffer (widest p.sizes p.states) (k % 2 ^ widest p.sizes p.states);
        waits = ltb-true _ _ (and_parts _ _ good).1;
      }

-- the number of a good configuration
module _ (p : Parser) (right : fault p ≡ 0) (q : ℕ) (some : q < length p.states) where
  pub within : (a : Config) → Good p a → WithinWidest p a
  within a good = needs-widest p right q some a.target good.there

  module _ (a : Config) (good : Good p a) where
    pub below : config_number p a < config_count p
    below = number_below p a good (within a good)

    pub back : number_config p (config_number p a) ≡ a
    back = number-config_number p a good (within a good)

    pub is_good : good_number p (config_number p a) ≡ true
    is_good =
        and_from _ _ (eq-eqb _ _ (ap (config_number p) back))
        (subst (λ b. ltb (length b.buffer) (needs p b.target) ≡ true) (sym back) (lt-ltb _ _ good.waits))

    pub next : (b : ℕ) → next_number p (config_number p a) b ≡ config_number p (step p a b)
    next b = ap (λ x. config_number p (step p x b)) back

  pub next_good : (a : Config) → Good p a → (b : ℕ) → b < 2 → Good p (step p a b)
  next_good a good b l = good_step p right a b l good

  pub first_good : (s : Store) → store_fits p.sizes s ≡ true → Good p (initial q s)
  first_good s fits = good_initial p right q s some fits

-- contents of headers are those of their number
pub store_again : (p : Parser) (s : Store) → store_fits p.sizes s ≡ true → parted p.sizes (number_bits (sum p.sizes) (bits_number (joined s))) ≡ s
store_again p s fits =
    ap (λ n. parted p.sizes (number_bits n (bits_number (joined s)))) (sym (length-joined p.sizes s fits))
    ∙ ap (parted p.sizes) (number-bits_number (joined s) (are_bits-joined p.sizes s fits))
    ∙ parted-joined p.sizes s fits
