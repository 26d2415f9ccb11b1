-- Two parsers walk as the system of their pairs does, so that a search of it decides whether they are equivalent. Assumes nothing.
use Rattle.std.proofs.Common.{◌≡◌, ℕ, ◌+◌, ◌*◌, ◌/◌, ◌%◌, ◌^◌, ◌<◌, Bool, true, false, [], ◌∷◌, length, sym, refl, ap, ◌∙◌, subst, ap₂, arith}
use Rattle.std.proofs.lemmas.Nat.{div-mul-add, mod-mul-add, mul-add-lt}
use Rattle.std.proofs.lemmas.Bool.{true≢false, false≢true, and_parts, ltb-true}
use Rattle.model.specs.Parser.{Bits, Parser, Store, accepts}
use Rattle.model.specs.Refusal.{are_bits, fault, store_fits}
use Rattle.model.specs.Request.{Comparison}
use Rattle.model.specs.Promise.{Equivalent, Distinguished, config_count}
use Rattle.model.specs.Config.{Config, step, steps, is_accept, initial}
use Rattle.model.specs.Theory.{BitByBit}
use Rattle.reach.specs.Model.{follow, Safe, Leads}
use Rattle.theory.specs.Good.{Good}
use Rattle.theory.specs.Number.{bits_number, joined, config_number, number_config}
use Rattle.theory.proofs.BitRows.{bits_number_below, length-joined, are_bits-joined}
use Rattle.theory.proofs.Good.{good_steps}
use Rattle.theory.proofs.Stepping.{bit_by_bit}
use Rattle.theory.proofs.Waiting.{steps_none, steps_more}
use Rattle.product.specs.Pair.{just_one, start_number, store_count, pair_model, SafeIsEquivalent, LeadingDistinguishes}
use Rattle.product.specs.View.{store_of}
use Rattle.product.proofs.BitNumbers.{store_of_fits}
use Rattle.product.proofs.Numbers.{below, back, next_good, first_good, store_again}

-- exactly one, or both alike
just_one_not : (x y : Bool) → just_one x y ≡ false → x ≡ y
just_one_not true true e = refl
just_one_not true false e = absurd (true≢false e)
just_one_not false true e = absurd (true≢false e)
just_one_not false false e = refl

just_one_same : (x y : Bool) → just_one x y ≡ true → x ≡ y → ⊥
just_one_same true true e d = false≢true e
just_one_same true false e d = true≢false d
just_one_same false true e d = false≢true d
just_one_same false false e d = false≢true e

-- bit by bit, of one parser
by_bits : (p : Parser) → fault p ≡ 0 → (q : ℕ) → q < length p.states → (s : Store) (bs : Bits) → store_fits p.sizes s ≡ true → are_bits bs ≡ true
    → accepts p s q bs ≡ is_accept (steps p (initial q s) bs).target
unfolding BitByBit
by_bits p right q some s bs fits bits = bit_by_bit p q s bs right some fits bits

store_below : (p : Parser) (s : Store) → store_fits p.sizes s ≡ true → bits_number (joined s) < store_count p
store_below p s fits = subst (λ n. bits_number (joined s) < 2 ^ n) (length-joined p.sizes s fits) (bits_number_below (joined s) (are_bits-joined p.sizes s fits))

module _ (c : Comparison) (right₁ : fault c.first ≡ 0) (right₂ : fault c.second ≡ 0)
    (some₁ : c.first_state < length c.first.states) (some₂ : c.second_state < length c.second.states) where
  abbrev pair : Config → Config → ℕ
  pair a b = config_number c.first a * config_count c.second + config_number c.second b

  module _ (a b : Config) (good₁ : Good c.first a) (good₂ : Good c.second b) where
    second_below : config_number c.second b < config_count c.second
    second_below = below c.second right₂ c.second_state some₂ b good₂

    high : pair a b / config_count c.second ≡ config_number c.first a
    high = div-mul-add (config_number c.first a) (config_count c.second) (config_number c.second b) second_below

    low : pair a b % config_count c.second ≡ config_number c.second b
    low = mod-mul-add (config_number c.first a) (config_count c.second) (config_number c.second b) second_below

    first_back : number_config c.first (pair a b / config_count c.second) ≡ a
    first_back = ap (number_config c.first) high ∙ back c.first right₁ c.first_state some₁ a good₁

    second_back : number_config c.second (pair a b % config_count c.second) ≡ b
    second_back = ap (number_config c.second) low ∙ back c.second right₂ c.second_state some₂ b good₂

    pair_next : (x : ℕ) → (pair_model c).next (pair a b) x ≡ pair (step c.first a x) (step c.second b x)
    pair_next x = ap₂ (λ d e. pair (step c.first d x) (step c.second e x)) first_back second_back

    pair_bad : (pair_model c).bad (pair a b) ≡ just_one (is_accept a.target) (is_accept b.target)
    pair_bad = ap₂ (λ d e. just_one (is_accept d.target) (is_accept e.target)) first_back second_back

  pair_follow : (a b : Config) → Good c.first a → Good c.second b → (bs : Bits) → are_bits bs ≡ true
      → follow (pair_model c).next (pair a b) bs ≡ pair (steps c.first a bs) (steps c.second b bs)
  pair_follow a b good₁ good₂ [] bits = sym (ap₂ pair (steps_none c.first a) (steps_none c.second b))
  pair_follow a b good₁ good₂ (x ∷ bs) bits =
      let two = and_parts _ _ bits in
      let l : x < 2 = ltb-true x 2 two.0 in
      ap (λ k. follow (pair_model c).next k bs) (pair_next a b good₁ good₂ x)
      ∙ pair_follow (step c.first a x) (step c.second b x) (next_good c.first right₁ c.first_state some₁ a good₁ x l) (next_good c.second right₂ c.second_state some₂ b good₂ x l) bs two.1
      ∙ sym (ap₂ pair (steps_more c.first a x bs) (steps_more c.second b x bs))

  -- after bits, the pair is bad just if exactly one of the two accepts
  bad_after : (a b : Config) → Good c.first a → Good c.second b → (bs : Bits) → are_bits bs ≡ true
      → (pair_model c).bad (follow (pair_model c).next (pair a b) bs) ≡ just_one (is_accept (steps c.first a bs).target) (is_accept (steps c.second b bs).target)
  bad_after a b good₁ good₂ bs bits =
      ap (pair_model c).bad (pair_follow a b good₁ good₂ bs bits)
      ∙ pair_bad (steps c.first a bs) (steps c.second b bs) (good_steps c.first right₁ a bs bits good₁) (good_steps c.second right₂ b bs bits good₂)

  -- the start with such contents of both headers
  module _ (s t : Store) (fits₁ : store_fits c.first.sizes s ≡ true) (fits₂ : store_fits c.second.sizes t ≡ true) where
    abbrev start_index : ℕ
    start_index = bits_number (joined s) * store_count c.second + bits_number (joined t)

    index_below : start_index < store_count c.first * store_count c.second
    index_below =
        omega (arith, mul-add-lt (bits_number (joined s)) (store_count c.second) (bits_number (joined t)) (store_count c.first) (store_below c.first s fits₁) (store_below c.second t fits₂))

    started : (pair_model c).start start_index ≡ pair (initial c.first_state s) (initial c.second_state t)
    started =
        let l = store_below c.second t fits₂ in
        ap₂ (λ i j. start_number c.first c.first_state i * config_count c.second + start_number c.second c.second_state j)
        (div-mul-add (bits_number (joined s)) (store_count c.second) (bits_number (joined t)) l) (mod-mul-add (bits_number (joined s)) (store_count c.second) (bits_number (joined t)) l)
        ∙ ap₂ (λ u v. pair (initial c.first_state u) (initial c.second_state v)) (store_again c.first s fits₁) (store_again c.second t fits₂)

  bad_from : (s t : Store) → store_fits c.first.sizes s ≡ true → store_fits c.second.sizes t ≡ true → (bs : Bits) → are_bits bs ≡ true
      → (pair_model c).bad (follow (pair_model c).next (pair (initial c.first_state s) (initial c.second_state t)) bs)
      ≡ just_one (accepts c.first s c.first_state bs) (accepts c.second t c.second_state bs)
  bad_from s t fits₁ fits₂ bs bits =
      bad_after (initial c.first_state s) (initial c.second_state t) (first_good c.first right₁ c.first_state some₁ s fits₁) (first_good c.second right₂ c.second_state some₂ t fits₂) bs bits
      ∙ sym (ap₂ just_one (by_bits c.first right₁ c.first_state some₁ s bs fits₁ bits) (by_bits c.second right₂ c.second_state some₂ t bs fits₂ bits))

  safe_equivalent : Safe (pair_model c) → Equivalent c
  safe_equivalent safe s t bs fits₁ fits₂ bits =
      just_one_not _ _
      (sym (bad_from s t fits₁ fits₂ bs bits) ∙ sym (ap (λ k. (pair_model c).bad (follow (pair_model c).next k bs)) (started s t fits₁ fits₂)) ∙ safe (start_index s t fits₁ fits₂) bs (index_below s t fits₁ fits₂) bits)

  leading : (k : ℕ) (bs : Bits) → Leads (pair_model c) k bs
      → Distinguished c (number_config c.first (k / config_count c.second)).store (number_config c.second (k % config_count c.second)).store bs
  leading k bs leads =
      let i : ℕ = leads.begins.0 in
      let s : Store = store_of c.first.sizes (i / store_count c.second) in
      let t : Store = store_of c.second.sizes (i % store_count c.second) in
      let fits₁ = store_of_fits c.first.sizes (i / store_count c.second) in
      let fits₂ = store_of_fits c.second.sizes (i % store_count c.second) in
      let a : Config = initial c.first_state s in
      let b : Config = initial c.second_state t in
      let good₁ = first_good c.first right₁ c.first_state some₁ s fits₁ in
      let good₂ = first_good c.second right₂ c.second_state some₂ t fits₂ in
      let is : pair a b ≡ k = leads.begins.2 in
      let apart : just_one (accepts c.first s c.first_state bs) (accepts c.second t c.second_state bs) ≡ true
      = sym (bad_from s t fits₁ fits₂ bs leads.bits) ∙ ap (λ j. (pair_model c).bad (follow (pair_model c).next j bs)) is ∙ leads.ends in
      let found : Distinguished c s t bs = (fits₁, fits₂, leads.bits, λ e. just_one_same _ _ apart e) in
      let first : s ≡ (number_config c.first (k / config_count c.second)).store
      = sym (ap (λ x. x.store) (first_back a b good₁ good₂)) ∙ ap (λ j. (number_config c.first (j / config_count c.second)).store) is in
      let second : t ≡ (number_config c.second (k % config_count c.second)).store
      = sym (ap (λ x. x.store) (second_back a b good₁ good₂)) ∙ ap (λ j. (number_config c.second (j % config_count c.second)).store) is in
      subst (λ u. Distinguished c u (number_config c.second (k % config_count c.second)).store bs) first (subst (λ v. Distinguished c s v bs) second found)

pub safe_is_equivalent : SafeIsEquivalent
safe_is_equivalent = safe_equivalent

pub leading_distinguishes : LeadingDistinguishes
leading_distinguishes = leading
