-- Numbers by their bytes.
use Rattle.std.proofs.Common.{◌≡◌, ℕ, zero, suc, ◌+◌, ◌-◌, ◌/◌, ◌%◌, ◌^◌, ◌≤◌, Bool, true, false, List, ◌∷◌, ◌++◌, length, take, drop, refl, ap, ◌∙◌, if◌then◌else◌, Ok, Err, Result, OnOk, arith}
use Rattle.std.proofs.lemmas.List.{append_assoc, take_all}
use Rattle.std.specs.Int.{bytes_high_first, byte_at}
use Rattle.std.specs.Result.{is_ok}
use Rattle.std.specs.declared.alloc.AllocError.{AllocError}
use mir.Val.{bool_byte}
use Rattle.format.specs.Written.{number, bool}
use Rattle.reply.specs.Appends.{Appends}

-- the lowest bytes of a number, and then what comes next
number_bytes : (w v : ℕ) (rest : List ℕ) → bytes_high_first w v ++ rest ≡ number w v rest
number_bytes zero v rest = refl
number_bytes (suc zero) v rest = let whole : v % 256 ≡ v / 256 ^ 0 % 256 = omega arith in ap (λ b. b ∷ rest) whole
number_bytes (suc (suc k)) v rest = ap (λ t. byte_at (suc k) v ∷ t) (number_bytes (suc k) v rest)

length-bytes : (w v : ℕ) → length (bytes_high_first w v) ≡ w
length-bytes zero v = refl
length-bytes (suc w) v = ap suc (length-bytes w v)

past_high : (k w v n : ℕ) → n ≡ k + w → drop k (bytes_high_first n v) ≡ bytes_high_first w v
past_high zero w v n e = let same : n ≡ w = omega (arith, e) in ap (λ m. bytes_high_first m v) same
past_high (suc k) w v zero e = absurd (omega (arith, e))
past_high (suc k) w v (suc n) e = past_high k w v n (omega (arith, e))

-- the last w of 8 bytes were put there
module _ (w v : ℕ) (l : w ≤ 8) where
  last_bytes : take (8 - (8 - w)) (drop (8 - w) (bytes_high_first 8 v)) ≡ bytes_high_first w v
  last_bytes =
      let many : length (bytes_high_first w v) ≤ 8 - (8 - w) = omega (arith, length-bytes w v) in
      ap (take (8 - (8 - w))) (past_high (8 - w) w v 8 (omega arith)) ∙ take_all (8 - (8 - w)) (bytes_high_first w v) many

  pub number_put : (r : Result (Unit {0}) AllocError) (a : List ℕ) {bytes c : List ℕ} → bytes ≡ bytes_high_first 8 v → c ≡ (if is_ok r then a ++ take (8 - (8 - w)) (drop (8 - w) bytes) else a) → OnOk r (Appends (number w v) a c)
  number_put (Ok x) a {bytes} {c} is e = λ rest.
      ap (λ b. b ++ rest) (e ∙ ap (λ b. a ++ take (8 - (8 - w)) (drop (8 - w) b)) is ∙ ap (λ b. a ++ b) last_bytes)
      ∙ append_assoc a (bytes_high_first w v) rest ∙ ap (λ b. a ++ b) (number_bytes w v rest)
  number_put (Err x) a is e = tt

-- a truth value is a number of one byte
pub number-bool_byte : (b : Bool) (rest : List ℕ) → number 1 (bool_byte b) rest ≡ bool b ∷ rest
number-bool_byte true rest = refl
number-bool_byte false rest = refl
