-- What tells two machines apart need not be longer than there are pairs of configurations.
use Rattle.std.proofs.Common.{◌≡◌, ℕ, zero, suc, ◌+◌, ◌*◌, ◌/◌, ◌%◌, ◌<◌, ◌≤◌, true, ltb, [], ◌∷◌, ◌++◌, length, take, drop, sym, ap, ◌∙◌, inl, inr, arith}
use lib.Arith.{digits_lt, digits_div, digits_mod}
use Rattle.std.proofs.lemmas.List.{length-take-le, length-drop, length-append}
use Rattle.std.proofs.lemmas.Bool.{cases_lt}
use Rattle.model.specs.Parser.{Bits}
use Rattle.model.specs.Refusal.{are_bits}
use Rattle.model.proofs.Every.{every_take, every_drop}
use Rattle.theory.specs.Machine.{Machine, run, Numbered, Differ}
use Rattle.theory.proofs.Machines.{are_bits_first, are_bits_rest, are_bits-append, run-append, run_split}
use Rattle.theory.proofs.Pigeons.{pigeons}

-- good configurations stay so after whatever bits
pub run_stays : (m : Machine) {good : m.Config → Type 0} {c : ℕ} → Numbered m good c → (a : m.Config) → good a → (w : Bits) → are_bits w ≡ true → good (run m a w)
run_stays m numbered a g [] bits = g
run_stays m numbered a g (b ∷ w) bits =
    run_stays m numbered (m.step a b) (numbered.stays a b (are_bits_first b w bits) g) w (are_bits_rest b w bits)

-- what is between two places where a machine is in the same configuration can be left out
pub run_shortcut : (m : Machine) (a : m.Config) (i j : ℕ) (w : Bits) → run m a (take i w) ≡ run m a (take j w) → run m a (take i w ++ drop j w) ≡ run m a w
run_shortcut m a i j w e = run-append m a (take i w) (drop j w) ∙ ap (λ x. run m x (drop j w)) e ∙ sym (run_split m a j w)

module _ (m n : Machine) {good₁ : m.Config → Type 0} {good₂ : n.Config → Type 0} {c d : ℕ} (first : Numbered m good₁ c) (second : Numbered n good₂ d)
    (a : m.Config) (b : n.Config) (good_a : good₁ a) (good_b : good₂ b) where
  -- both numbers after the first i bits, as one number
  pair : Bits → ℕ → ℕ
  pair w i = first.number (run m a (take i w)) * d + second.number (run n b (take i w))

  module _ (w : Bits) (bits : are_bits w ≡ true) where
    good_first : (i : ℕ) → good₁ (run m a (take i w))
    good_first i = run_stays m first a good_a (take i w) (every_take (λ x. ltb x 2) w bits i)

    good_second : (i : ℕ) → good₂ (run n b (take i w))
    good_second i = run_stays n second b good_b (take i w) (every_take (λ x. ltb x 2) w bits i)

    below_second : (i : ℕ) → second.number (run n b (take i w)) < d
    below_second i = second.below (run n b (take i w)) (good_second i)

    pair_lt : (i : ℕ) → pair w i < c * d
    unfolding pair
    pair_lt i = digits_lt (first.below (run m a (take i w)) (good_first i)) (below_second i)

    pair_first : (i j : ℕ) → pair w i ≡ pair w j → run m a (take i w) ≡ run m a (take j w)
    unfolding pair
    pair_first i j e =
        first.injective (run m a (take i w)) (run m a (take j w)) (good_first i) (good_first j)
        (sym (digits_div (first.number (run m a (take i w))) (below_second i)) ∙ ap (λ x. x / d) e ∙ digits_div (first.number (run m a (take j w))) (below_second j))

    pair_second : (i j : ℕ) → pair w i ≡ pair w j → run n b (take i w) ≡ run n b (take j w)
    unfolding pair
    pair_second i j e =
        second.injective (run n b (take i w)) (run n b (take j w)) (good_second i) (good_second j)
        (sym (digits_mod (first.number (run m a (take i w))) (below_second i)) ∙ ap (λ x. x % d) e ∙ digits_mod (first.number (run m a (take j w))) (below_second j))

  -- a loop that both machines go through is left out
  shorter : (w : Bits) → Differ m n a b w → c * d < length w → (v : Bits) × (Differ m n a b v × (length v < length w))
  shorter w differ long =
      let found : (i : ℕ) × ((j : ℕ) × ((i < j) × (j ≤ c * d) × (pair w i ≡ pair w j))) = pigeons (c * d) (pair w) (λ i l. pair_lt w differ.bits i) in
      let i : ℕ = found.0 in
      let j : ℕ = found.1.0 in
      let before : i < j = found.1.1.0 in
      let within : j ≤ c * d = found.1.1.1 in
      let e : pair w i ≡ pair w j = found.1.1.2 in (
        take i w ++ drop j w,
        (
          record {
            bits = are_bits-append (take i w) (drop j w) (every_take (λ x. ltb x 2) w differ.bits i) (every_drop (λ x. ltb x 2) w differ.bits j);
            apart = λ agree. differ.apart
                (ap m.accepting (sym (run_shortcut m a i j w (pair_first w differ.bits i j e))) ∙ agree
                ∙ ap n.accepting (run_shortcut n b i j w (pair_second w differ.bits i j e)));
          },
          omega (arith, length-append (take i w) (drop j w), length-take-le i w (omega arith), length-drop j w),
        ),
      )

  -- of at most k bits
  short_within : (k : ℕ) (w : Bits) → length w ≤ k → Differ m n a b w → (v : Bits) × (Differ m n a b v × (length v ≤ c * d))
  short_within zero w l differ = (w, (differ, omega arith))
  short_within (suc k) w l differ =
      elim (cases_lt (c * d) (length w)) [
        | inl long ↦
            let next : (v : Bits) × (Differ m n a b v × (length v < length w)) = shorter w differ long in
            short_within k next.0 (omega (arith, next.1.1)) next.1.0
        | inr enough ↦ (w, (differ, enough))
      ]

  pub short : (w : Bits) → Differ m n a b w → (v : Bits) × (Differ m n a b v × (length v ≤ c * d))
  short w differ = short_within (length w) w (omega arith) differ
