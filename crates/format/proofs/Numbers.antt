-- A number that fits its bytes is read back.
use Rattle.std.proofs.Common.{◌≡◌, ℕ, zero, suc, ◌+◌, ◌*◌, ◌/◌, ◌%◌, ◌^◌, ◌<◌, Bool, true, cond, List, [], ◌∷◌, ◌++◌, length, take, drop, sym, refl, ap, ◌∙◌, ap₂, mod-eq_of_lt, mul_assoc, add-mul, arith}
use native.Mathlib.Nat.{pow-succ', one-le-pow, mod-one}
use lib.Arith.{mod-mul}
use Rattle.std.proofs.lemmas.List.{length-append, take_at, drop_at}
use Rattle.std.proofs.lemmas.Bool.{le-leb, ltb-true}
use Rattle.format.specs.Read.{Read, got, failed, bind, read_bytes, big_endian, read_number}
use Rattle.format.specs.Written.{number, fits}

-- what passes a test and was written, whatever comes after it, is read back
abbrev pub ReadsBack : {X : Type 0} → (List ℕ → Read X) → (X → List ℕ → List ℕ) → (X → Bool) → Type 0
ReadsBack {X} read write ok = (x : X) (rest : List ℕ) → ok x ≡ true → read (write x rest) ≡ got x rest

-- a thing that was got, and then another
pub bind_got : {X Y : Type 0} {x : Read X} {y : X} {rest : List ℕ} {z : Read Y} (f : X → List ℕ → Read Y) → x ≡ got y rest → f y rest ≡ z → bind x f ≡ z
bind_got f e h = ap (λ x. bind x f) e ∙ h

pub read_bytes-append : (xs rest : List ℕ) (n : ℕ) → length xs ≡ n → read_bytes n (xs ++ rest) ≡ got xs rest
read_bytes-append xs rest n e =
    ap (λ (b : Bool). cond b (got (take n (xs ++ rest)) (drop n (xs ++ rest))) (failed [])) (le-leb n (length (xs ++ rest)) (omega (arith, length-append xs rest)))
    ∙ ap₂ (λ x y. got x y) (take_at xs rest n e) (drop_at xs rest n e)

number_append : (k v : ℕ) (rest : List ℕ) → number k v rest ≡ number k v [] ++ rest
number_append zero v rest = refl
number_append (suc k) v rest = ap (λ bs. v / 256 ^ k % 256 ∷ bs) (number_append k v rest)

length-number : (k v : ℕ) → length (number k v []) ≡ k
length-number zero v = refl
length-number (suc k) v = ap suc (length-number k v)

big_endian_number : (k v n : ℕ) → big_endian n (number k v []) ≡ n * 256 ^ k + v % 256 ^ k
big_endian_number zero v n = omega (arith, mod-one v)
big_endian_number (suc k) v n =
    let p : ℕ = 256 ^ k in
    let d : ℕ = v / p % 256 in
    let positive : 0 < p = one-le-pow k 256 (omega arith) in
    let low : v % (256 * p) ≡ d * p + v % p = mod-mul v (omega arith) positive in
    let high : (n * 256 + d) * p ≡ n * (256 * p) + d * p = add-mul (n * 256) d p ∙ ap (λ m. m + d * p) (mul_assoc n 256 p) in
    big_endian_number k v (n * 256 + d) ∙ omega (arith, low, high) ∙ sym (ap (λ q. n * q + v % q) (pow-succ' 256 k))

pub number_back : (k : ℕ) → ReadsBack (read_number k) (number k) (fits k)
number_back k v rest ok =
    let small : v % 256 ^ k ≡ v = mod-eq_of_lt (ltb-true v (256 ^ k) ok) in
    ap (read_number k) (number_append k v rest)
    ∙ bind_got (λ ds r. got (big_endian 0 ds) r) (read_bytes-append (number k v []) rest k (length-number k v))
    (ap (λ n. got n rest) (big_endian_number k v 0 ∙ omega (arith, small)))
