-- One of three entries in a word, changed. Assumes nothing.
use Rattle.std.proofs.Common.{◌≡◌, ℕ, zero, suc, ◌+◌, ◌-◌, ◌*◌, ◌%◌, ◌<◌, refl, arith}
use Rattle.reach.specs.Layouts.{slot}

-- the others stay where the first is changed
pub first_changes : (w old v j : ℕ) → w < 18446744073709551616 → v < 2097152 → old ≡ slot w 0 → j < 3 → (j ≡ 0 → ⊥) → slot (w - old + v) j ≡ slot w j
first_changes w old v zero fits narrow e r ne = absurd (ne refl)
first_changes w old v (suc zero) fits narrow e r ne = omega arith
first_changes w old v (suc (suc zero)) fits narrow e r ne = omega arith
first_changes w old v (suc (suc (suc j))) fits narrow e r ne = absurd (omega arith)

-- and where the last is
pub last_changes : (w old v j : ℕ) → w < 18446744073709551616 → v < 2097152 → old ≡ slot w 2 → j < 3 → (j ≡ 2 → ⊥)
    → slot (w - old * 4398046511104 % 18446744073709551616 + v * 4398046511104 % 18446744073709551616) j ≡ slot w j
last_changes w old v zero fits narrow e r ne = omega arith
last_changes w old v (suc zero) fits narrow e r ne = omega arith
last_changes w old v (suc (suc zero)) fits narrow e r ne = absurd (ne refl)
last_changes w old v (suc (suc (suc j))) fits narrow e r ne = absurd (omega arith)
