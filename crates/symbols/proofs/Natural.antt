-- What a state does to a row does not look at what stands there, but for bits: it is the same before and after each is replaced. Assumes nothing.
use Rattle.std.proofs.Common.{◌≡◌, ℕ, zero, suc, ◌<◌, true, List, [], ◌∷◌, ◌++◌, map, get_or, take, drop, set, sym, refl, ap, ◌∙◌, ap₂, arith}
use Rattle.std.proofs.lemmas.List.{map-append, map-set, take-map, drop-map}
use Rattle.std.proofs.lemmas.Bool.{and_parts, ltb-true}
use Rattle.model.specs.Parser.{Expr, header, bits, slice, join, Op, extract, assign, Store, value, run_ops}
use Rattle.model.specs.Refusal.{are_bits, every, sized_expr, sized_op}

module _ (g : ℕ → ℕ) (zero_stays : g 0 ≡ 0) (one_stays : g 1 ≡ 1) where
  bit_stays : (b : ℕ) → b < 2 → b ≡ g b
  bit_stays zero l = sym zero_stays
  bit_stays (suc zero) l = sym one_stays
  bit_stays (suc (suc n)) l = absurd (omega arith)

  bits_stay : (bs : List ℕ) → are_bits bs ≡ true → bs ≡ map g bs
  bits_stay [] a = refl
  bits_stay (b ∷ bs) a = let p = and_parts _ _ a in ap₂ ◌∷◌ (bit_stays b (ltb-true _ _ p.0)) (bits_stay bs p.1)

  header_map : (s : Store) (h : ℕ) → get_or (map (map g) s) h [] ≡ map g (get_or s h [])
  header_map [] h = refl
  header_map (b ∷ s) zero = refl
  header_map (b ∷ s) (suc h) = header_map s h

  pub value-map : (ns : List ℕ) (s : Store) (e : Expr) → sized_expr ns e ≡ true → value (map (map g) s) e ≡ map g (value s e)
  value-map ns s (header h) w = header_map s h
  value-map ns s (bits bs) w = bits_stay bs (and_parts _ _ w).0
  value-map ns s (slice e lo hi) w =
      ap (λ v. drop lo (take (suc hi) v)) (value-map ns s e (and_parts _ _ (and_parts _ _ w).0).0) ∙ ap (drop lo) (take-map g (suc hi) (value s e)) ∙ drop-map g lo (take (suc hi) (value s e))
  value-map ns s (join d e) w =
      let p = and_parts _ _ (and_parts _ _ w).0 in
      ap₂ (λ x y. x ++ y) (value-map ns s d p.0) (value-map ns s e p.1) ∙ sym (map-append g (value s d) (value s e))

  pub ops_map : (ns : List ℕ) (os : List Op) (bs : List ℕ) (s : Store) → every (sized_op ns) os ≡ true
      → run_ops ns os (map g bs) (map (map g) s) ≡ map (map g) (run_ops ns os bs s)
  ops_map ns [] bs s w = refl
  ops_map ns (extract h ∷ os) bs s w =
      ap₂ (λ b t. run_ops ns os b t) (drop-map g (get_or ns h 0) bs) (ap (set (map (map g) s) h) (take-map g (get_or ns h 0) bs) ∙ sym (map-set (map g) s h (take (get_or ns h 0) bs)))
      ∙ ops_map ns os (drop (get_or ns h 0) bs) (set s h (take (get_or ns h 0) bs)) w
  ops_map ns (assign h e ∷ os) bs s w =
      let p = and_parts _ _ w in
      ap (λ t. run_ops ns os (map g bs) t) (ap (set (map (map g) s) h) (value-map ns s e (and_parts _ _ p.0).0) ∙ sym (map-set (map g) s h (value s e)))
      ∙ ops_map ns os bs (set s h (value s e)) p.1
