-- The valuation that a list of bits says.
use Rattle.std.proofs.Common.{◌≡◌, ◌↔◌, ℕ, ◌+◌, ◌/◌, ◌%◌, ◌<◌, Bool, true, false, not, List, [], map, length, get_or, IsTrue, refl, sym, ap, ◌∙◌, subst, arith}
use mathlib.Core.Bool.{beq}
use Rattle.std.proofs.lemmas.List.{get_or-map, length-map}
use Rattle.clauses.specs.Clauses.{bit, Holds, Sat, All, clause_at, clauses_at}
use Rattle.clauses.specs.Known.{Fits}

-- premises, one by one
pub all_each : (v : ℕ → Bool) (numbers starts : List ℕ) → All v (clauses_at numbers starts) → (c : ℕ) → c < length starts → Sat v (clause_at numbers (get_or starts c 0))
unfolding clauses_at
all_each v numbers starts all c l =
    let lt : c < length (map (clause_at numbers) starts) = omega (arith, length-map starts (clause_at numbers)) in
    subst (λ x. Sat v x) (get_or-map (clause_at numbers) starts c 0 [] l) (all c lt)

pub all_from : (v : ℕ → Bool) (numbers starts : List ℕ) → ((c : ℕ) → c < length starts → Sat v (clause_at numbers (get_or starts c 0))) → All v (clauses_at numbers starts)
unfolding clauses_at
all_from v numbers starts each k l =
    let lt : k < length starts = omega (arith, length-map starts (clause_at numbers)) in
    subst (λ x. Sat v x) (sym (get_or-map (clause_at numbers) starts k 0 [] lt)) (each k lt)

-- nothing is known
pub fits_none : (v : ℕ → Bool) (value : List ℕ) → ((k : ℕ) → k < length value → get_or value k 0 ≡ 2) → Fits v [] value
fits_none v value none = record {
  fixed = λ p l. absurd (omega arith);
  equal = λ p l. absurd (omega arith);
  known = λ p l small. absurd (omega (arith, none p l));
}

-- a bit that differs from a literal's sign
apart : (b n : Bool) → IsTrue (not (beq b n)) ↔ (bit b + bit n ≡ 1)
unfolding bit
apart true true = (λ h. cc, λ h. absurd (omega arith))
apart true false = (λ h. refl, λ h. refl)
apart false true = (λ h. refl, λ h. refl)
apart false false = (λ h. cc, λ h. absurd (omega arith))

pub holds_is : (b n : Bool) (p l : ℕ) (v : ℕ → Bool) → b ≡ v p → p ≡ l / 2 → bit n ≡ l % 2 → IsTrue (not (beq b n)) ↔ Holds v l
holds_is b n p l v is at sign =
    let same : bit (v (l / 2)) ≡ bit b = sym (ap bit (is ∙ ap v at)) in
    (λ h. omega (arith, (apart b n).0 h), λ h. (apart b n).1 (omega arith))
