-- What is written into a row one after the other, and a header that is written so. Assumes nothing.
use Rattle.std.proofs.Common.{◌≡◌, ℕ, zero, suc, ◌+◌, ◌<◌, ◌≤◌, List, [], ◌∷◌, length, get_or, set, sym, refl, ◌∙◌, subst, ap₂, ⊎_elim, not-suc-le-zero, arith}
use Rattle.std.proofs.lemmas.List.{ext_get_or}
use Rattle.std.proofs.lemmas.Bool.{cases_lt}
use Rattle.machine.specs.Ready.{starts_from}
use Rattle.machine.specs.Row.{part, headers}
use Rattle.machine.specs.Window.{Written}
use Rattle.machine.proofs.Rows.{length_part, part_at, same_part, same_headers}

pub write_none : (f : ℕ → ℕ) (xs : List ℕ) (k : ℕ) → Written f f xs k 0
write_none f xs k = record { wrote = λ j l. absurd (not-suc-le-zero l); below = λ j l. refl; above = λ j l. refl }

pub write_more : {f g h : ℕ → ℕ} {xs : List ℕ} {k i : ℕ} → Written f g xs k i → h (k + i) ≡ get_or xs i 0 → ((j : ℕ) → (j ≡ k + i → ⊥) → h j ≡ g j) → Written f h xs k (i + 1)
write_more {f} {g} {h} {xs} {k} {i} w here others =
    record {
      wrote = λ j l. ⊎_elim (λ (m : j < i). others (k + j) (λ e. omega arith) ∙ w.wrote j m) (λ (m : i ≤ j). let e : j ≡ i = omega arith in subst (λ n. h (k + n) ≡ get_or xs n 0) (sym e) here) (cases_lt j i);
      below = λ j l. others j (λ e. omega arith) ∙ w.below j l;
      above = λ j l. others j (λ e. omega arith) ∙ w.above j (omega arith);
    }

pub written_part : {f g : ℕ → ℕ} {xs : List ℕ} {k n : ℕ} → length xs ≡ n → Written f g xs k n → part g k n ≡ xs
written_part {f} {g} {xs} {k} {n} long w =
    ext_get_or 0 (part g k n) xs (length_part g k n ∙ sym long) (λ i l. let h : i < n = omega (arith, length_part g k n) in part_at g k n i h ∙ w.wrote i h)

start_from : (k : ℕ) (ns : List ℕ) (h : ℕ) → h < length ns → k ≤ get_or (starts_from k ns) h 0
start_from k [] h l = absurd (not-suc-le-zero l)
start_from k (n ∷ ns) zero l = omega arith
start_from k (n ∷ ns) (suc h) l = omega (arith, start_from (k + n) ns h (omega arith))

-- a header that is written whole
pub write_all : (f g : ℕ → ℕ) (xs : List ℕ) (k : ℕ) (ns : List ℕ) (h : ℕ) → h < length ns → length xs ≡ get_or ns h 0 → Written f g xs (get_or (starts_from k ns) h 0) (get_or ns h 0)
    → headers g k ns ≡ set (headers f k ns) h xs
write_all f g xs k [] h l long w = absurd (not-suc-le-zero l)
write_all f g xs k (n ∷ ns) zero l long w = ap₂ ◌∷◌ (written_part long w) (same_headers g f (k + n) (k + n) ns (λ i l. w.above (k + n + i) (omega arith)))
write_all f g xs k (n ∷ ns) (suc h) l long w =
    ap₂ ◌∷◌ (same_part g f k k n (λ i m. w.below (k + i) (omega (arith, start_from (k + n) ns h (omega arith))))) (write_all f g xs (k + n) ns h (omega arith) long w)

pub header_written : {f g : ℕ → ℕ} {xs : List ℕ} {k i : ℕ} (ns : List ℕ) (h : ℕ) → h < length ns → length xs ≡ get_or ns h 0 → k ≡ get_or (starts_from 0 ns) h 0 → i ≡ get_or ns h 0
    → Written f g xs k i → headers g 0 ns ≡ set (headers f 0 ns) h xs
header_written {f} {g} {xs} {k} {i} ns h l long start all w =
    write_all f g xs 0 ns h l long (subst (λ m. Written f g xs (get_or (starts_from 0 ns) h 0) m) all (subst (λ m. Written f g xs m i) start w))
