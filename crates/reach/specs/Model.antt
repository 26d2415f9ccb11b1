-- Systems of configurations that bits lead through, and which of them come to a bad one. Assumes nothing.
use Rattle.std.specs.Prelude.{◌≡◌, ℕ, ◌<◌, Bool, true, false, [], ◌∷◌}
use Rattle.model.specs.Parser.{Bits}
use Rattle.model.specs.Refusal.{are_bits}

-- configurations are numbers below `count`; each bit leads from a good one to a good one; some are bad, and from so many it may start
pub record Model : Type 0 where
  pub count : ℕ
  pub good : ℕ → Bool
  pub next : ℕ → ℕ → ℕ
  pub bad : ℕ → Bool
  pub starts : ℕ
  pub start : ℕ → ℕ

-- the configuration after some bits
abbrev pub follow : (ℕ → ℕ → ℕ) → ℕ → Bits → ℕ
follow next p [] = p
follow next p (b ∷ bs) = follow next (next p b) bs

-- no bits lead from a start to a bad configuration
abbrev pub Safe : Model → Type 0
Safe m = (i : ℕ) (bs : Bits) → i < m.starts → are_bits bs ≡ true → m.bad (follow m.next (m.start i) bs) ≡ false

-- p is a start, and these bits lead from it to a bad configuration
pub record Leads (m : Model) (p : ℕ) (bs : Bits) : Type 0 where
  pub begins : (i : ℕ) × (i < m.starts) × (m.start i ≡ p)
  pub bits : are_bits bs ≡ true
  pub ends : m.bad (follow m.next p bs) ≡ true
