-- The loop that makes pairs of symbols and bits. Assumes nothing.
use Rattle.std.proofs.Common.{◌≡◌, ℕ, ◌+◌, ◌*◌, ◌<◌, ◌≤◌, List, [], ◌∷◌, ◌++◌, length, get_or, take, drop, set, sym, ap, ◌∙◌, ap₂, arith}
use Rattle.std.proofs.lemmas.List.{drop_more, drop_all, append_assoc, append-nil, take_more_set, length-set, get_or-set_other}
use Rattle.machine.specs.Row.{part}
use Rattle.symbols.specs.View.{in_row}
use Rattle.symbols.specs.Symbol.{paired}
use Rattle.machine.proofs.Rows.{part_at}

-- what is written so far and the pairs of what is left make the whole, and what is left still stands where it stood
pub record Pairing (out whole v bs : List ℕ) (at i : ℕ) : Type 0 where
  pub same : take (at + 2 * i) out ++ paired (drop i v) (drop i bs) ≡ whole
  pub ahead : (j : ℕ) → i ≤ j → j < length bs → get_or out (at + length bs + j) 0 ≡ get_or v j 0

pub pair_none : (out bs : List ℕ) (at : ℕ)
    → (let v : List ℕ = part (in_row out) (at + length bs) (length bs) in Pairing out (take at out ++ paired v bs) v bs at 0)
pair_none out bs at =
    let v : List ℕ = part (in_row out) (at + length bs) (length bs) in
    record { same = ap (λ k. take k out ++ paired v bs) (omega arith); ahead = λ j _ l. sym (part_at (in_row out) (at + length bs) (length bs) j l) }

two_set : (out : List ℕ) (n x y : ℕ) → n + 1 < length out → take (n + 2) (set (set out n x) (n + 1) y) ≡ take n out ++ x ∷ y ∷ []
two_set out n x y l =
    let e : n + 2 ≡ (n + 1) + 1 = omega arith in
    ap (λ k. take k (set (set out n x) (n + 1) y)) e ∙ take_more_set (set out n x) (n + 1) y (omega (arith, length-set out n x)) ∙ ap (λ xs. xs ++ y ∷ []) (take_more_set out n x (omega arith))
    ∙ append_assoc (take n out) (x ∷ []) (y ∷ [])

module _ {out whole v bs : List ℕ} {at i : ℕ} (p : Pairing out whole v bs at i) where
  pub pair_more : i < length v → i < length bs → at + 2 * i + 1 < length out
      → Pairing (set (set out (at + 2 * i) (get_or out (at + length bs + i) 0)) (at + 2 * i + 1) (get_or bs i 0)) whole v bs at (i + 1)
  pair_more l m room =
      let n : ℕ = at + 2 * i in
      let x : ℕ = get_or out (at + length bs + i) 0 in
      let y : ℕ = get_or bs i 0 in
      let on : at + 2 * (i + 1) ≡ n + 2 = omega arith in
      record {
        same = ap (λ k. take k (set (set out n x) (n + 1) y) ++ paired (drop (i + 1) v) (drop (i + 1) bs)) on
            ∙ ap (λ xs. xs ++ paired (drop (i + 1) v) (drop (i + 1) bs)) (two_set out n x y room)
            ∙ append_assoc (take n out) (x ∷ y ∷ []) (paired (drop (i + 1) v) (drop (i + 1) bs))
            ∙ ap (λ a. take n out ++ a ∷ y ∷ paired (drop (i + 1) v) (drop (i + 1) bs)) (p.ahead i (omega arith) m)
            ∙ sym (ap₂ (λ a b. take n out ++ paired a b) (drop_more v i 0 l) (drop_more bs i 0 m)) ∙ p.same;
        ahead = λ j h k.
            get_or-set_other (set out n x) (n + 1) (at + length bs + j) y 0 (λ e. omega arith) ∙ get_or-set_other out n (at + length bs + j) x 0 (λ e. omega arith) ∙ p.ahead j (omega arith) k;
      }

  pub pair_all : length v ≤ i → take (at + 2 * i) out ≡ whole
  pair_all l = sym (append-nil (take (at + 2 * i) out)) ∙ sym (ap (λ a. take (at + 2 * i) out ++ paired a (drop i bs)) (drop_all i v l)) ∙ p.same
