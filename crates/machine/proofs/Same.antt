-- Two rows of bits that are compared. Assumes nothing.
use Rattle.std.proofs.Common.{◌≡◌, ℕ, ◌+◌, ◌<◌, ◌≤◌, Bool, true, false, ◌&&◌, eqb, List, [], ◌∷◌, length, get_or, drop, Decides, sym, refl, ap, ◌∙◌, arith, rules}
use Rattle.std.proofs.lemmas.Slice.Eq.{compares_Decides}
use Rattle.std.proofs.lemmas.List.{drop_more, drop_all}
use Rattle.std.proofs.lemmas.Bool.{eq-eqb, ne_eqb}
use Rattle.model.specs.Parser.{same_bits}

pub same_decides : (xs ys : List ℕ) → Decides (same_bits xs ys) (xs ≡ ys)
same_decides = compares_Decides same_bits (search rules)

pub not_same : (xs ys : List ℕ) → (xs ≡ ys → ⊥) → same_bits xs ys ≡ false
not_same xs ys ne = go (same_bits xs ys) refl
  where
    go : (b : Bool) → same_bits xs ys ≡ b → same_bits xs ys ≡ false
    go false e = e
    go true e = absurd (ne ((same_decides xs ys).0 e))

-- the loop that does it
module _ (v bs : List ℕ) (i : ℕ) (long : length v ≡ length bs) (so_far : same_bits (drop i v) (drop i bs) ≡ same_bits v bs) where
  one : i < length bs → same_bits (drop i v) (drop i bs) ≡ (eqb (get_or v i 0) (get_or bs i 0) && same_bits (drop (i + 1) v) (drop (i + 1) bs))
  one l =
      ap (λ xs. same_bits xs (drop i bs)) (drop_more v i 0 (omega arith)) ∙ ap (λ xs. same_bits (get_or v i 0 ∷ drop (i + 1) v) xs) (drop_more bs i 0 l)

  pub same_more : {x y : ℕ} → i < length bs → x ≡ get_or v i 0 → y ≡ get_or bs i 0 → x ≡ y → same_bits (drop (i + 1) v) (drop (i + 1) bs) ≡ same_bits v bs
  same_more l p q e =
      let t : eqb (get_or v i 0) (get_or bs i 0) ≡ true = eq-eqb _ _ (sym p ∙ e ∙ q) in
      sym (one l ∙ ap (λ b. b && same_bits (drop (i + 1) v) (drop (i + 1) bs)) t) ∙ so_far

  pub same_apart : {x y : ℕ} → i < length bs → x ≡ get_or v i 0 → y ≡ get_or bs i 0 → (x ≡ y → ⊥) → false ≡ same_bits v bs
  same_apart l p q ne =
      let t : eqb (get_or v i 0) (get_or bs i 0) ≡ false = ne_eqb _ _ (λ e. ne (p ∙ e ∙ sym q)) in
      sym (one l ∙ ap (λ b. b && same_bits (drop (i + 1) v) (drop (i + 1) bs)) t) ∙ so_far

  pub same_all : length bs ≤ i → true ≡ same_bits v bs
  same_all l = sym (ap (λ xs. same_bits xs (drop i bs)) (drop_all i v (omega arith)) ∙ ap (same_bits []) (drop_all i bs l)) ∙ so_far
