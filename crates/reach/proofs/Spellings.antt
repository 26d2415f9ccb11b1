-- What the entries on the way spell. Assumes nothing.
use Rattle.std.proofs.Common.{◌≡◌, ℕ, zero, suc, ◌+◌, ◌*◌, ◌/◌, ◌%◌, ◌^◌, ◌<◌, ◌≤◌, Bool, true, false, cond, ltb, List, [], ◌∷◌, ◌++◌, get_or, drop, refl, ap, ◌∙◌, arith}
use Rattle.std.proofs.lemmas.Nat.{mod_below}
use Rattle.std.proofs.lemmas.List.{get_or-drop}
use Rattle.std.proofs.lemmas.Bool.{and_from, lt-ltb}
use Rattle.model.specs.Parser.{Bits}
use Rattle.model.specs.Refusal.{are_bits}
use Rattle.rows.specs.Row.{bit_in, bits_in}
use Rattle.reach.specs.Ways.{spelled}

module _ (e : ℕ → ℕ) (on : ℕ → Bool) where
  -- none of d entries is on the way
  pub spelled_skip : (d a b n n' : ℕ) → b ≡ a + d → n ≡ d + n' → ((x : ℕ) → a ≤ x → x < b → on x ≡ false) → spelled e on a n ≡ spelled e on b n'
  unfolding spelled
  spelled_skip zero a b n n' b_is n_is none =
      let same : a ≡ b = omega arith in
      let fewer : n ≡ n' = omega arith in
      ap (λ x. spelled e on x n) same ∙ ap (spelled e on b) fewer
  spelled_skip (suc d) a b n n' b_is n_is none =
      let more : n ≡ suc (d + n') = omega arith in
      ap (spelled e on a) more
      ∙ ap (λ t. cond t (e a % 2 ∷ spelled e on (suc a) (d + n')) (spelled e on (suc a) (d + n'))) (none a (omega arith) (omega arith))
      ∙ spelled_skip d (suc a) b (d + n') n' (omega arith) refl (λ x l r. none x (omega arith) r)

  pub spelled-take : (k n n' : ℕ) → n ≡ suc n' → on k ≡ true → spelled e on k n ≡ e k % 2 ∷ spelled e on (suc k) n'
  unfolding spelled
  spelled-take k n n' is does = ap (spelled e on k) is ∙ ap (λ t. cond t (e k % 2 ∷ spelled e on (suc k) n') (spelled e on (suc k) n')) does

  pub spelled_none : (k n : ℕ) → n ≡ 0 → spelled e on k n ≡ []
  unfolding spelled
  spelled_none k n is = ap (spelled e on k) is

  spelled_bits_if : (t : Bool) (b : ℕ) (bs : Bits) → b < 2 → are_bits bs ≡ true → are_bits (cond t (b ∷ bs) bs) ≡ true
  spelled_bits_if true b bs l rest = and_from (ltb b 2) (are_bits bs) (lt-ltb b 2 l) rest
  spelled_bits_if false b bs l rest = rest

  pub spelled_bits : (k n : ℕ) → are_bits (spelled e on k n) ≡ true
  unfolding spelled
  spelled_bits k zero = refl
  spelled_bits k (suc n) = spelled_bits_if (on k) (e k % 2) (spelled e on (suc k) n) (mod_below (e k) 2 (omega arith)) (spelled_bits (suc k) n)

  pub spelled_same : (on' : ℕ → Bool) (k n : ℕ) → ((x : ℕ) → k ≤ x → on' x ≡ on x) → spelled e on' k n ≡ spelled e on k n
  unfolding spelled
  spelled_same on' k zero same = refl
  spelled_same on' k (suc n) same =
      ap (λ t. cond t (e k % 2 ∷ spelled e on' (suc k) n) (spelled e on' (suc k) n)) (same k (omega arith))
      ∙ ap (λ bs. cond (on k) (e k % 2 ∷ bs) bs) (spelled_same on' (suc k) n (λ x l. same x (omega arith)))

-- rows of bits: one more, and after a write elsewhere
pub bits_more : (ws : List ℕ) (k n : ℕ) → bits_in ws k (suc n) ≡ bits_in ws k n ++ bit_in ws (k + n) ∷ []
bits_more ws k zero = let e : k ≡ k + 0 = omega arith in ap (λ x. bit_in ws x ∷ []) e
bits_more ws k (suc n) =
    let e : suc k + n ≡ k + suc n = omega arith in
    ap (λ bs. bit_in ws k ∷ bs) (bits_more ws (suc k) n ∙ ap (λ x. bits_in ws (suc k) n ++ bit_in ws x ∷ []) e)

pub bits_same : (ws ws' : List ℕ) (k n : ℕ) → ((x : ℕ) → k ≤ x → x < k + n → bit_in ws' x ≡ bit_in ws x) → bits_in ws' k n ≡ bits_in ws k n
bits_same ws ws' k zero same = refl
bits_same ws ws' k (suc n) same =
    ap (λ b. b ∷ bits_in ws' (suc k) n) (same k (omega arith) (omega arith))
    ∙ ap (λ bs. bit_in ws k ∷ bs) (bits_same ws ws' (suc k) n (λ x l r. same x (omega arith) (omega arith)))

pub bit-drop : (ws : List ℕ) (n x : ℕ) → bit_in (drop n ws) x ≡ bit_in ws (64 * n + x)
bit-drop ws n x =
    let word : n + x / 64 ≡ (64 * n + x) / 64 = omega arith in
    let place : x % 64 ≡ (64 * n + x) % 64 = omega arith in
    ap (λ w. w / 2 ^ (x % 64) % 2) (get_or-drop n ws (x / 64) 0 ∙ ap (λ i. get_or ws i 0) word)
    ∙ ap (λ y. get_or ws ((64 * n + x) / 64) 0 / 2 ^ y % 2) place
