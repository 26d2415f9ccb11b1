-- A relation that leaps keep shows that two machines accept the same.
use Rattle.std.proofs.Common.{◌≡◌, ℕ, zero, suc, ◌<◌, ◌≤◌, true, ltb, length, take, drop, ⊎_elim, arith}
use Rattle.std.proofs.lemmas.List.{length-take-le, length-drop}
use Rattle.std.proofs.lemmas.Bool.{cases_lt}
use Rattle.model.specs.Parser.{Bits}
use Rattle.model.specs.Refusal.{are_bits}
use Rattle.model.proofs.Every.{every_take, every_drop}
use Rattle.theory.specs.Machine.{Machine, Agree, Same, Leap, Leaping}
use Rattle.theory.proofs.Machines.{agree_split}

module _ (m n : Machine) (r : m.Config → n.Config → Type 0) (kept : Leaping m n r) where
  -- of at most k bits
  within : (k : ℕ) (a : m.Config) (b : n.Config) → r a b → (w : Bits) → are_bits w ≡ true → length w ≤ k → Agree m n a b w
  within zero a b h w bits l =
      ⊎_elim (λ (forever : Same m n a b). forever w bits) (λ (leap : Leap m n r a b). leap.quiet w bits (omega (arith, leap.some))) (kept a b h)
  within (suc k) a b h w bits l =
      ⊎_elim (λ (forever : Same m n a b). forever w bits)
      (λ (leap : Leap m n r a b).
      ⊎_elim (λ (short : length w < leap.size). leap.quiet w bits short)
      (λ (long : leap.size ≤ length w).
      agree_split m n a b leap.size w
      (within k _ _ (leap.lands (take leap.size w) (every_take (λ c. ltb c 2) w bits leap.size) (length-take-le leap.size w long)) (drop leap.size w)
      (every_drop (λ c. ltb c 2) w bits leap.size)
      (omega (arith, leap.some, length-drop leap.size w))))
      (cases_lt (length w) leap.size))
      (kept a b h)

pub leaping_same : (m n : Machine) (r : m.Config → n.Config → Type 0) → Leaping m n r → (a : m.Config) (b : n.Config) → r a b → Same m n a b
leaping_same m n r kept a b h w bits = within m n r kept (length w) a b h w bits (omega arith)
