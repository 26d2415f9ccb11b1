-- What is true of every machine: a run goes on from any point, and to accept the same is the largest bisimulation.
use Rattle.std.proofs.Common.{◌≡◌, ℕ, ◌<◌, true, ltb, [], ◌∷◌, ◌++◌, take, drop, sym, refl, ap, ◌∙◌}
use Rattle.std.proofs.lemmas.List.{take-append-drop}
use Rattle.std.proofs.lemmas.Bool.{and_parts, and_from, lt-ltb, ltb-true}
use Rattle.model.specs.Parser.{Bits}
use Rattle.model.specs.Refusal.{are_bits}
use Rattle.theory.specs.Machine.{Machine, run, Agree, Same, Bisimulates}

-- a bit before bits, and what it is made of
pub are_bits_more : (c : ℕ) (w : Bits) → c < 2 → are_bits w ≡ true → are_bits (c ∷ w) ≡ true
are_bits_more c w l bits = and_from (ltb c 2) (are_bits w) (lt-ltb c 2 l) bits

pub are_bits_first : (c : ℕ) (w : Bits) → are_bits (c ∷ w) ≡ true → c < 2
are_bits_first c w bits = ltb-true c 2 (and_parts (ltb c 2) (are_bits w) bits).0

pub are_bits_rest : (c : ℕ) (w : Bits) → are_bits (c ∷ w) ≡ true → are_bits w ≡ true
are_bits_rest c w bits = (and_parts (ltb c 2) (are_bits w) bits).1

pub are_bits-append : (v w : Bits) → are_bits v ≡ true → are_bits w ≡ true → are_bits (v ++ w) ≡ true
are_bits-append [] w first second = second
are_bits-append (c ∷ v) w first second = are_bits_more c (v ++ w) (are_bits_first c v first) (are_bits-append v w (are_bits_rest c v first) second)

pub run-append : (m : Machine) (a : m.Config) (v w : Bits) → run m a (v ++ w) ≡ run m (run m a v) w
run-append m a [] w = refl
run-append m a (b ∷ v) w = run-append m (m.step a b) v w

-- acceptance split at any point
pub run_split : (m : Machine) (a : m.Config) (k : ℕ) (w : Bits) → run m a w ≡ run m (run m a (take k w)) (drop k w)
run_split m a k w = ap (run m a) (sym (take-append-drop k w)) ∙ run-append m a (take k w) (drop k w)

pub agree_split : (m n : Machine) (a : m.Config) (b : n.Config) (k : ℕ) (w : Bits) → Agree m n (run m a (take k w)) (run n b (take k w)) (drop k w) → Agree m n a b w
agree_split m n a b k w h = ap m.accepting (run_split m a k w) ∙ h ∙ sym (ap n.accepting (run_split n b k w))

pub bisimulation_same : (m n : Machine) (r : m.Config → n.Config → Type 0) → Bisimulates m n r → (a : m.Config) (b : n.Config) → r a b → Same m n a b
bisimulation_same m n r kept a b h [] bits = (kept a b h).0
bisimulation_same m n r kept a b h (c ∷ w) bits =
    bisimulation_same m n r kept (m.step a c) (n.step b c) ((kept a b h).1 c (are_bits_first c w bits)) w (are_bits_rest c w bits)

pub same_bisimulates : (m n : Machine) → Bisimulates m n (Same m n)
same_bisimulates m n a b h = (h [] refl, λ c l w bits. h (c ∷ w) (are_bits_more c w l bits))

pub same_sym : (m n : Machine) (a : m.Config) (b : n.Config) → Same m n a b → Same n m b a
same_sym m n a b h w bits = sym (h w bits)

pub same_trans : (m n o : Machine) (a : m.Config) (b : n.Config) (c : o.Config) → Same m n a b → Same n o b c → Same m o a c
same_trans m n o a b c h i w bits = h w bits ∙ i w bits
