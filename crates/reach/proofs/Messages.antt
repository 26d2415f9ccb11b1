-- What a turn over the entries on the way writes. Assumes nothing.
use Rattle.std.proofs.Common.{◌≡◌, ℕ, zero, suc, ◌+◌, ◌-◌, ◌*◌, ◌/◌, ◌%◌, ◌<◌, ◌≤◌, true, false, cond, eqb, List, [], ◌∷◌, ◌++◌, length, drop, set, sym, refl, ap, ◌∙◌, subst, ⊎_elim, arith}
use Rattle.std.proofs.lemmas.Nat.{mod_below}
use Rattle.std.proofs.lemmas.List.{append_assoc, append-nil, get_or-set_same, drop-set-lt}
use Rattle.std.proofs.lemmas.Bool.{cases_lt, false≢true}
use Rattle.rows.specs.Row.{bit_in, bits_in, row_in}
use Rattle.rows.specs.Lowest.{Zeros, LowestOne}
use Rattle.reach.specs.Tables.{path, entry}
use Rattle.reach.specs.Ways.{spelled, way_bits}
use Rattle.reach.specs.Tracing.{Spelling}
use Rattle.reach.specs.declared.tables.Tables.{Tables}
use Rattle.reach.proofs.Spellings.{spelled_skip, spelled-take, spelled_none, bits_more, bits_same, bit-drop}

bit_again : (b : ℕ) → b < 2 → cond (eqb b 1) 1 0 ≡ b
bit_again zero l = refl
bit_again (suc zero) l = refl
bit_again (suc (suc b)) l = absurd (omega arith)

module _ (t : Tables) (message : List ℕ) (root last next len : ℕ) (h : Spelling t message root last next len) where
  module _ (top : path t last ≡ true) (more : next ≤ last) where
    off_way : (j : ℕ) → Zeros t.way.now 0 next j → (x : ℕ) → next ≤ x → x < j → path t x ≡ false
    off_way j zeros x l r =
        let first : x ≡ 64 * 0 + x = omega arith in
        ap (path t) first ∙ ap (λ b. eqb b 1) (zeros x l r)

    -- the last entry is on the way
    pub within_way : (j : ℕ) → Zeros t.way.now 0 next j → j ≤ last
    within_way j zeros =
        ⊎_elim
        (λ (lt : last < j). absurd (false≢true (sym (off_way j zeros last more lt) ∙ top)))
        (λ (ge : j ≤ last). ge)
        (cases_lt last j)

    pub spelling_skip : Zeros t.way.now 0 next (64 * suc (next / 64)) → Spelling t message root last (64 * (next / 64 + 1)) len
    spelling_skip zeros =
        let to : ℕ = 64 * (next / 64 + 1) in
        let same : 64 * suc (next / 64) ≡ to = omega arith in
        let in_way : to ≤ last = subst (λ x. x ≤ last) same (within_way (64 * suc (next / 64)) zeros) in
        let skipped = spelled_skip (entry t) (path t) (to - next) next to (suc last - next) (suc last - to) (omega arith) (omega arith)
        (λ x l r. off_way (64 * suc (next / 64)) zeros x l (omega arith)) in
        record {
          bits = ap (λ bs. bits_in (drop 1 message) 0 len ++ bs) (sym skipped) ∙ h.bits;
          ahead = omega (arith, h.ahead);
          near = omega arith;
        }

    -- entry k is on the way, and its bit is written
    module _ (k v : ℕ) (message' : List ℕ) (found : LowestOne t.way.now 0 next k) (v_is : v ≡ entry t k) (here : bit_in message' (64 * 1 + len) ≡ cond (eqb (v % 2) 1) 1 0) (others : (j : ℕ) → (j ≡ 64 * 1 + len → ⊥) → bit_in message' j ≡ bit_in message j) where
      k_within : k ≤ last
      k_within = within_way k found.zeros

      on_way : path t k ≡ true
      on_way =
          let first : k ≡ 64 * 0 + k = omega arith in
          ap (path t) first ∙ ap (λ b. eqb b 1) found.one

      spelled_found : spelled (entry t) (path t) next (suc last - next) ≡ v % 2 ∷ spelled (entry t) (path t) (suc k) (last - k)
      spelled_found =
          spelled_skip (entry t) (path t) (k - next) next k (suc last - next) (suc (last - k)) (omega (arith, found.above)) (omega (arith, found.above, k_within)) (off_way k found.zeros)
          ∙ spelled-take (entry t) (path t) k (suc (last - k)) (last - k) refl on_way
          ∙ ap (λ x. x % 2 ∷ spelled (entry t) (path t) (suc k) (last - k)) (sym v_is)

      spelled_rest : spelled (entry t) (path t) (k + 1) (suc last - (k + 1)) ≡ spelled (entry t) (path t) (suc k) (last - k)
      spelled_rest =
          let from : k + 1 ≡ suc k = omega arith in
          let many : suc last - (k + 1) ≡ last - k = omega arith in
          ap (λ x. spelled (entry t) (path t) x (suc last - (k + 1))) from ∙ ap (spelled (entry t) (path t) (suc k)) many

      written : bits_in (drop 1 message') 0 (len + 1) ≡ bits_in (drop 1 message) 0 len ++ v % 2 ∷ []
      written =
          let one_more : len + 1 ≡ suc len = omega arith in
          let place : 64 * 1 + (0 + len) ≡ 64 * 1 + len = omega arith in
          let bit : bit_in (drop 1 message') (0 + len) ≡ v % 2 =
          bit-drop message' 1 (0 + len) ∙ ap (bit_in message') place ∙ here ∙ bit_again (v % 2) (mod_below v 2 (omega arith)) in
          let old : bits_in (drop 1 message') 0 len ≡ bits_in (drop 1 message) 0 len =
          bits_same (drop 1 message) (drop 1 message') 0 len
          (λ x l r. bit-drop message' 1 x ∙ others (64 * 1 + x) (λ s. omega arith) ∙ sym (bit-drop message 1 x)) in
          ap (bits_in (drop 1 message') 0) one_more
          ∙ bits_more (drop 1 message') 0 len
          ∙ ap (λ bs. bs ++ bit_in (drop 1 message') (0 + len) ∷ []) old
          ∙ ap (λ b. bits_in (drop 1 message) 0 len ++ b ∷ []) bit

      pub spelling_take : Spelling t message' root last (k + 1) (len + 1)
      spelling_take = record {
        bits =
            ap (λ bs. bs ++ spelled (entry t) (path t) (k + 1) (suc last - (k + 1))) written
            ∙ ap (λ bs. (bits_in (drop 1 message) 0 len ++ v % 2 ∷ []) ++ bs) spelled_rest
            ∙ append_assoc (bits_in (drop 1 message) 0 len) (v % 2 ∷ []) (spelled (entry t) (path t) (suc k) (last - k))
            ∙ ap (λ bs. bits_in (drop 1 message) 0 len ++ bs) (sym spelled_found)
            ∙ h.bits;
        ahead = omega (arith, h.ahead, found.above);
        near = omega (arith, k_within);
      }

  -- all of it is written, and then its length
  pub spelling_all : last < next → 0 < length message → row_in (set message 0 len) 0 ≡ way_bits t root last
  spelling_all all fits =
      let less : 0 < 1 = omega arith in
      ap (bits_in (drop 1 (set message 0 len)) 0) (get_or-set_same message 0 len 0 fits)
      ∙ ap (λ ws. bits_in ws 0 len) (drop-set-lt 1 message 0 len less)
      ∙ sym (append-nil (bits_in (drop 1 message) 0 len))
      ∙ ap (λ bs. bits_in (drop 1 message) 0 len ++ bs) (sym (spelled_none (entry t) (path t) next (suc last - next) (omega arith)))
      ∙ h.bits
