-- Headers in a row: what stands where, and rows that stand for others. Assumes nothing.
use Rattle.std.proofs.Common.{◌≡◌, ℕ, zero, suc, ◌+◌, ◌/◌, ◌%◌, ◌<◌, ◌≤◌, true, List, [], ◌∷◌, map, length, get_or, sym, refl, ap, ◌∙◌, ap₂, not-suc-le-zero, add-zero, arith}
use Rattle.std.proofs.lemmas.Bool.{and_from, eq-eqb, lt-ltb}
use Rattle.std.proofs.lemmas.Nat.Bits.{bit_at-lt}
use Rattle.model.specs.Refusal.{are_bits, store_fits, sum}
use Rattle.rows.specs.Row.{bit_in}
use Rattle.machine.specs.Row.{part, headers}
use Rattle.machine.specs.Ready.{starts_from}

pub length_part : (f : ℕ → ℕ) (k n : ℕ) → length (part f k n) ≡ n
length_part f k zero = refl
length_part f k (suc n) = ap suc (length_part f (suc k) n)

pub part_at : (f : ℕ → ℕ) (k n i : ℕ) → i < n → get_or (part f k n) i 0 ≡ f (k + i)
part_at f k zero i h = absurd (not-suc-le-zero h)
part_at f k (suc n) zero h = ap f (sym (add-zero k))
part_at f k (suc n) (suc i) h = part_at f (suc k) n i (omega arith) ∙ ap f (omega arith)

pub sizes_kept : (f : ℕ → ℕ) (k : ℕ) (ns : List ℕ) → map length (headers f k ns) ≡ ns
sizes_kept f k [] = refl
sizes_kept f k (n ∷ ns) = cc (length_part f k n, sizes_kept f (k + n) ns)

pub header_at : (f : ℕ → ℕ) (k : ℕ) (ns : List ℕ) (h : ℕ) → h < length ns → get_or (headers f k ns) h [] ≡ part f (get_or (starts_from k ns) h 0) (get_or ns h 0)
header_at f k [] h l = absurd (not-suc-le-zero l)
header_at f k (n ∷ ns) zero l = refl
header_at f k (n ∷ ns) (suc h) l = header_at f (k + n) ns h (omega arith)

pub start_room : (k : ℕ) (ns : List ℕ) (h : ℕ) → h < length ns → get_or (starts_from k ns) h 0 + get_or ns h 0 ≤ k + sum ns
start_room k [] h l = absurd (not-suc-le-zero l)
start_room k (n ∷ ns) zero l = omega arith
start_room k (n ∷ ns) (suc h) l = omega (arith, start_room (k + n) ns h (omega arith))

-- the same, from one place on and from another
pub same_part : (f h : ℕ → ℕ) (k m n : ℕ) → ((i : ℕ) → i < n → f (k + i) ≡ h (m + i)) → part f k n ≡ part h m n
same_part f h k m zero e = refl
same_part f h k m (suc n) e =
    ap₂ ◌∷◌ (ap f (omega arith) ∙ e 0 (omega arith) ∙ ap h (omega arith)) (same_part f h (suc k) (suc m) n (λ i l. ap f (omega arith) ∙ e (suc i) (omega arith) ∙ ap h (omega arith)))

pub same_headers : (f h : ℕ → ℕ) (k m : ℕ) (ns : List ℕ) → ((i : ℕ) → i < sum ns → f (k + i) ≡ h (m + i)) → headers f k ns ≡ headers h m ns
same_headers f h k m [] e = refl
same_headers f h k m (n ∷ ns) e =
    ap₂ ◌∷◌ (same_part f h k m n (λ i l. e i (omega arith))) (same_headers f h (k + n) (m + n) ns (λ i l. ap f (omega arith) ∙ e (n + i) (omega arith) ∙ ap h (omega arith)))

-- words hold nothing but bits
part_bits : (ws : List ℕ) (k n : ℕ) → are_bits (part (bit_in ws) k n) ≡ true
part_bits ws k zero = refl
part_bits ws k (suc n) = and_from _ _ (lt-ltb _ _ (bit_at-lt (get_or ws (k / 64) 0) (k % 64))) (part_bits ws (suc k) n)

pub headers_fit : (ws : List ℕ) (k : ℕ) (ns : List ℕ) → store_fits ns (headers (bit_in ws) k ns) ≡ true
headers_fit ws k [] = refl
headers_fit ws k (n ∷ ns) = and_from _ _ (and_from _ _ (eq-eqb _ _ (length_part (bit_in ws) k n)) (part_bits ws k n)) (headers_fit ws (k + n) ns)
