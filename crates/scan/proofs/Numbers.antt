-- Numbers from their bytes.
use Rattle.std.proofs.Common.{◌≡◌, ℕ, ◌+◌, ◌-◌, ◌*◌, ◌^◌, ◌<◌, ◌≤◌, cond, List, [], length, get_or, take, drop, sym, ap, ◌∙◌, pow-suc, add-one, arith, lit<}
use native.Mathlib.Nat.{pow-le-pow_right}
use Rattle.std.proofs.lemmas.List.{drop-drop, drop_all, length-drop, take_all, at_drop_more, at_drop_all}
use Rattle.std.proofs.lemmas.Bool.{le-leb, lt-leb}
use Rattle.format.specs.Read.{got, failed, read_bytes, big_endian}
use Rattle.scan.specs.Reads.{Place, left, Ceased}

-- one more digit
pub more_digits : (ds : List ℕ) (n i : ℕ) → i < length ds → big_endian n (drop i ds) ≡ big_endian 0 ds → big_endian (n * 256 + get_or ds i 0) (drop (i + 1) ds) ≡ big_endian 0 ds
more_digits ds n i l so_far = sym (at_drop_more (big_endian n) ds i 0 l) ∙ so_far

pub all_digits : (ds : List ℕ) (n i : ℕ) → length ds ≤ i → big_endian n (drop i ds) ≡ big_endian 0 ds → n ≡ big_endian 0 ds
all_digits ds n i l so_far = sym (at_drop_all (big_endian n) ds i l) ∙ so_far

pub digit_bound : (n i d : ℕ) → n < 256 ^ i → d < 256 → n * 256 + d < 256 ^ (i + 1)
digit_bound n i d l k = let p : 256 ^ (i + 1) ≡ 256 ^ i * 256 = ap (λ m. 256 ^ m) (add-one i) ∙ pow-suc 256 i in omega arith

pub number_small : (n i w : ℕ) → i ≤ w → w ≤ 8 → n < 256 ^ i → n < 18446744073709551616
number_small n i w l k s = let q : i ≤ 8 = omega arith in let p : 256 ^ i ≤ 256 ^ 8 = pow-le-pow_right (lit< tt) q in omega arith

-- so many bytes are there, or not
module _ (p : Place) (n : ℕ) where
  pub enough : n ≤ length (left p) → read_bytes n (left p) ≡ got (take n (left p)) (drop (p.at + n) p.bytes)
  enough l =
      ap (λ b. cond b (got (take n (left p)) (drop n (left p))) (failed [])) (le-leb n (length (left p)) l) ∙ ap (got (take n (left p))) (drop-drop n p.at p.bytes)

  pub too_few : length (left p) < n → Ceased (read_bytes n (left p)) p.bytes (length p.bytes)
  too_few l =
      record {
        within = omega arith;
        reads = ap (λ b. cond b (got (take n (left p)) (drop n (left p))) (failed [])) (lt-leb n (length (left p)) l) ∙ ap failed (sym (drop_all (length p.bytes) p.bytes (omega arith)));
      }

-- what `&bs[at..]` is
pub tail : (bs : List ℕ) (at : ℕ) → take (length bs - at) (drop at bs) ≡ drop at bs
tail bs at = take_all (length bs - at) (drop at bs) (omega (arith, length-drop at bs))
