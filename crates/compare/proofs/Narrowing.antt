-- Where pairs fit 60 bits, each header fits a number.
use Rattle.std.proofs.Common.{◌≡◌, ℕ, zero, suc, ◌+◌, ◌*◌, ◌^◌, ◌<◌, ◌≤◌, Bool, true, false, cond, ltb, List, [], ◌∷◌, length, get_or, refl, ⊎_elim, not-suc-le-zero, arith, lit<}
use Rattle.std.proofs.lemmas.Nat.{pow_below, mul-le}
use Rattle.std.proofs.lemmas.Bool.{and_parts, ltb-true, cases_lt}
use Rattle.model.specs.Parser.{Parser}
use Rattle.model.specs.Refusal.{fault, sum, every, widest}
use Rattle.model.specs.Promise.{config_count}
use Rattle.model.proofs.Every.{every_at}
use Rattle.compare.specs.Pieces.{Narrow}

kept : (b : Bool) (x n : ℕ) → 0 < n → cond b x n ≡ 0 → b ≡ true
kept true x n l e = refl
kept false x n l e = absurd (omega arith)

-- each header of a parser that is right has a bit
each_some : (p : Parser) → fault p ≡ 0 → every (ltb 0) p.sizes ≡ true
each_some p e = (and_parts _ _ (and_parts _ _ (and_parts _ _ (kept _ _ 2 (lit< tt) e)).0).0).0

-- one header is no larger than all
one_of_sum : (ns : List ℕ) (j : ℕ) → j < length ns → get_or ns j 0 ≤ sum ns
one_of_sum [] j l = absurd (not-suc-le-zero l)
one_of_sum (n ∷ ns) zero l = omega arith
one_of_sum (n ∷ ns) (suc j) l = omega (arith, one_of_sum ns j (omega arith))

-- headers of a parser whose configurations, times some others, fit 60 bits
module _ (p : Parser) (right : fault p ≡ 0) (m : ℕ) (some : 0 < m) (small : config_count p * m ≤ 2 ^ 60) where
  bits_few : sum p.sizes + widest p.sizes p.states < 61
  bits_few =
      let b : ℕ = sum p.sizes + widest p.sizes p.states in
      ⊎_elim (λ l. l)
      (λ (large : 61 ≤ sum p.sizes + widest p.sizes p.states).
      let more : 2 ^ 60 < 2 ^ (sum p.sizes + widest p.sizes p.states) = pow_below 60 b (omega arith) in
      let one : 1 * 2 ^ (sum p.sizes + widest p.sizes p.states) ≤ config_count p = mul-le 1 (2 ^ b) (2 + length p.states) (2 ^ b) (omega arith) (omega arith) in
      let all : config_count p * 1 ≤ config_count p * m = mul-le (config_count p) 1 (config_count p) m (omega arith) some in
      absurd (omega arith))
      (cases_lt b 61)

  pub narrow : Narrow p.sizes
  narrow j l = (ltb-true 0 (get_or p.sizes j 0) (every_at (ltb 0) p.sizes (each_some p right) j 0 l), omega (arith, bits_few, one_of_sum p.sizes j l))
