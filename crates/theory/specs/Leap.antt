-- Leaps: several bits at once, and relations that they keep. Assumes nothing.
use Rattle.std.specs.Prelude.{◌≡◌, ℕ, ◌-◌, ◌<◌, min, Bool, true, false, cond, ◌⊎◌, length}
use Rattle.model.specs.Parser.{Bits, Target, state, accept, reject, Parser}
use Rattle.model.specs.Refusal.{are_bits, fault}
use Rattle.model.specs.Request.{Comparison}
use Rattle.model.specs.Promise.{Equivalent}
use Rattle.model.specs.Config.{Config, needs, steps, is_accept}
use Rattle.model.specs.Theory.{Initially}

-- fewer bits are in the buffer than the target needs
abbrev pub Ready : Parser → Config → Type 0
Ready p a = length a.buffer < needs p a.target

-- how many bits a configuration still needs
abbrev pub left : Parser → Config → ℕ
left p a = needs p a.target - length a.buffer

abbrev pub is_reject : Target → Bool
is_reject (state q) = false
is_reject accept = false
is_reject reject = true

-- the fewer of what two still need; reject needs none ever
abbrev pub fewest : Target → Target → ℕ → ℕ → ℕ
fewest t u m n = cond (is_reject t) n (cond (is_reject u) m (min m n))

abbrev pub leap_size : Parser → Parser → Config → Config → ℕ
leap_size p q a b = fewest a.target b.target (left p a) (left q b)

-- related configurations accept alike and wait for bits; both have rejected, or whatever bits a leap has keep the relation
pub record KeptByLeaps (p q : Parser) (r : Config → Config → Type 0) : Type 0 where
  pub alike : (a b : Config) → r a b → is_accept a.target ≡ is_accept b.target
  pub ready_first : (a b : Config) → r a b → Ready p a
  pub ready_second : (a b : Config) → r a b → Ready q b
  pub leaps : (a b : Config) → r a b → ((a.target ≡ reject) × (b.target ≡ reject))
      ⊎ ((w : Bits) → are_bits w ≡ true → length w ≡ leap_size p q a b → r (steps p a w) (steps q b w))

-- a relation that leaps keep, and that holds at the beginning, shows that two parsers are equivalent
abbrev pub LeapsAreEquivalentOf : (Config → Config → Type 0) → Type 0
LeapsAreEquivalentOf r =
    (c : Comparison) → fault c.first ≡ 0 → fault c.second ≡ 0 → c.first_state < length c.first.states → c.second_state < length c.second.states
    → KeptByLeaps c.first c.second r → Initially c r → Equivalent c

-- whatever the relation
abbrev pub LeapsAreEquivalent : Type 1
LeapsAreEquivalent = (r : Config → Config → Type 0) → LeapsAreEquivalentOf r
