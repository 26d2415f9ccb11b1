-- Deterministic machines over bits, and when two accept the same. Assumes nothing.
use Rattle.std.specs.Prelude.{◌≡◌, ℕ, ◌<◌, Bool, true, ◌⊎◌, [], ◌∷◌, length}
use Rattle.model.specs.Parser.{Bits}
use Rattle.model.specs.Refusal.{are_bits}

-- configurations, what one bit does, and which configurations accept
pub record Machine : Type 1 where
  pub Config : Type 0
  pub step : Config → ℕ → Config
  pub accepting : Config → Bool

-- one bit after the other
abbrev pub run : (m : Machine) → m.Config → Bits → m.Config
run m a [] = a
run m a (b ∷ bs) = run m (m.step a b) bs

-- both accept after these bits, or neither
abbrev pub Agree : (m n : Machine) → m.Config → n.Config → Bits → Type 0
Agree m n a b w = m.accepting (run m a w) ≡ n.accepting (run n b w)

-- and after whatever bits
abbrev pub Same : (m n : Machine) → m.Config → n.Config → Type 0
Same m n a b = (w : Bits) → are_bits w ≡ true → Agree m n a b w

-- related configurations accept alike, and each bit keeps the relation
abbrev pub Bisimulates : (m n : Machine) → (m.Config → n.Config → Type 0) → Type 0
Bisimulates m n r = (a : m.Config) (b : n.Config) → r a b → (m.accepting a ≡ n.accepting b) × ((c : ℕ) → c < 2 → r (m.step a c) (n.step b c))

-- a leap: so many bits at once, both agree on the way, and what holds after them
pub record Leap (m n : Machine) (r : m.Config → n.Config → Type 0) (a : m.Config) (b : n.Config) : Type 0 where
  pub size : ℕ
  pub some : 0 < size
  pub quiet : (w : Bits) → are_bits w ≡ true → length w < size → Agree m n a b w
  pub lands : (w : Bits) → are_bits w ≡ true → length w ≡ size → r (run m a w) (run n b w)

-- a relation that leaps keep, or that shows that both agree for ever
abbrev pub Leaping : (m n : Machine) → (m.Config → n.Config → Type 0) → Type 0
Leaping m n r = (a : m.Config) (b : n.Config) → r a b → Same m n a b ⊎ Leap m n r a b

-- numbers below a count for the configurations of a set that each bit stays in
pub record Numbered (m : Machine) (good : m.Config → Type 0) (count : ℕ) : Type 0 where
  pub number : m.Config → ℕ
  pub below : (a : m.Config) → good a → number a < count
  pub injective : (a b : m.Config) → good a → good b → number a ≡ number b → a ≡ b
  pub stays : (a : m.Config) (c : ℕ) → c < 2 → good a → good (m.step a c)

-- bits after which exactly one accepts
pub record Differ (m n : Machine) (a : m.Config) (b : n.Config) (w : Bits) : Type 0 where
  pub bits : are_bits w ≡ true
  pub apart : Agree m n a b w → ⊥
