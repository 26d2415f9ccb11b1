-- The starts and then all that they lead to: what each turn makes of the tables, and what follows at the end. Assumes nothing.
use Rattle.std.proofs.Common.{◌≡◌, ℕ, ◌+◌, ◌*◌, ◌/◌, ◌%◌, ◌<◌, ◌≤◌, Bool, true, false, not, ltb, [], ◌∷◌, sym, ap, ◌∙◌, subst, ⊎_elim, arith}
use Rattle.std.proofs.lemmas.Bool.{and_parts, ltb-true}
use Rattle.model.specs.Parser.{Bits}
use Rattle.model.specs.Refusal.{are_bits}
use Rattle.reach.specs.Model.{Model, follow, Safe}
use Rattle.reach.specs.Tables.{seen, odd_in, entry, Pushed}
use Rattle.reach.specs.Held.{conf, Waits, Origin}
use Rattle.reach.specs.Phases.{Going, Caught}
use Rattle.reach.specs.declared.tables.Tables.{Tables}
use Rattle.reach.proofs.Turns.{origin_start, origin_step, swept_more, swept_begun, held_roots, room_left, going_push, caught_push}

-- a set that is closed and has nothing bad
shut : (m : Model) (f : ℕ → Bool) → ((x : ℕ) → f x ≡ true → m.bad x ≡ false) → ((p b : ℕ) → f p ≡ true → b < 2 → f (m.next p b) ≡ true) → (bs : Bits) (p : ℕ) → f p ≡ true → are_bits bs ≡ true → m.bad (follow m.next p bs) ≡ false
shut m f fine closed [] p on bits = fine p on
shut m f fine closed (b ∷ bs) p on bits =
    let parts = and_parts (ltb b 2) (are_bits bs) bits in
    shut m f fine closed bs (m.next p b) (closed p b on (ltb-true b 2 parts.0)) parts.1

pub safe : (m : Model) (t : Tables) (roots done : ℕ) → Going m t roots m.starts done → 2 * t.tail ≤ done → Safe m
safe m t roots done h all i bs below bits =
    shut m (seen t) h.swept.fine
    (λ x b on l. ⊎_elim (λ to. to) (λ (w : Waits (entry t) t.tail done x b). absurd (omega (arith, w.1, w.3))) (h.swept.closed x b on l))
    bs (m.start i) (h.swept.begins i below) bits

-- while the starts come
module _ (m : Model) (t : Tables) (i q : ℕ) (h : Going m t m.count i 0) (q_is : q ≡ m.start i) where
  pub seed_known : seen t q ≡ true → Going m t m.count (i + 1) 0
  seed_known on = record {
    size = h.size;
    held = h.held;
    swept = swept_begun m (seen t) (entry t) t.tail i 0 h.swept (subst (λ x. seen t x ≡ true) q_is on);
    unmarked = h.unmarked;
  }

  module _ (t' : Tables) (pushed : Pushed t t' q (2 * q + 0) false) (off : seen t q ≡ false) (below : q < m.count) (good : m.good q ≡ true) (more : i < m.starts) where
    seed_left : t.tail < m.count
    seed_left = room_left m (seen t) (odd_in t) (entry t) m.count t.tail q h.held off below

    seed_from : Origin m (odd_in t') (entry t') m.count t.tail
    seed_from = origin_start m (seen t) (seen t') (odd_in t) (odd_in t') (entry t) (entry t') t.tail q 0 false (omega arith) pushed.sees pushed.parities pushed.entries m.count seed_left (i, more, sym q_is)

    pub seed_fresh : m.bad q ≡ false → Going m t' m.count (i + 1) 0
    seed_fresh fine =
        let after : Going m t' m.count i 0 = going_push m t t' m.count q 0 i 0 false (omega arith) h pushed off below good seed_from (omega arith) fine in
        record {
          size = after.size;
          held = after.held;
          swept = swept_begun m (seen t') (entry t') t'.tail i 0 after.swept (subst (λ x. seen t' x ≡ true) q_is pushed.sees.here);
          unmarked = after.unmarked;
        }

    pub seed_bad : m.bad q ≡ true → Caught m t' t'.tail t.tail
    seed_bad wrong =
        let after : Caught m t' m.count t.tail = caught_push m t t' m.count q 0 i 0 false (omega arith) h pushed off below good seed_from wrong in
        record {
          size = after.size;
          tail = after.tail;
          held = held_roots m (seen t') (odd_in t') (entry t') m.count t'.tail after.held (omega (arith, seed_left, pushed.tail));
          wrong = after.wrong;
          unmarked = after.unmarked;
        }

pub seed_all : (m : Model) (t : Tables) (i : ℕ) → Going m t m.count i 0 → i ≡ m.starts → Going m t t.tail m.starts 0
seed_all m t i h all = record {
  size = h.size;
  held = held_roots m (seen t) (odd_in t) (entry t) m.count t.tail h.held (omega (arith, h.held.spare));
  swept = (subst (λ x. Going m t m.count x 0) all h).swept;
  unmarked = h.unmarked;
}

-- while the queue is gone through
module _ (m : Model) (t : Tables) (roots done q : ℕ) (h : Going m t roots m.starts done) (q_is : q ≡ m.next (conf (entry t) (done / 2)) (done % 2)) where
  pub explore_known : seen t q ≡ true → Going m t roots m.starts (done + 1)
  explore_known on = record {
    size = h.size;
    held = h.held;
    swept = swept_more m (seen t) (entry t) t.tail m.starts done h.swept (subst (λ x. seen t x ≡ true) q_is on);
    unmarked = h.unmarked;
  }

  module _ (t' : Tables) (parity : Bool) (par : parity ≡ not (odd_in t (done / 2))) (pushed : Pushed t t' q (2 * q + done % 2) parity) (off : seen t q ≡ false) (below : q < m.count) (good : m.good q ≡ true) (more : done < 2 * t.tail) (rooted : roots ≤ t.tail) where
    explore_from : Origin m (odd_in t') (entry t') roots t.tail
    explore_from = origin_step m (seen t) (seen t') (odd_in t) (odd_in t') (entry t) (entry t') t.tail q (done % 2) parity (omega arith) pushed.sees pushed.parities pushed.entries roots (done / 2) rooted (omega arith) par (sym q_is)

    pub explore_fresh : m.bad q ≡ false → Going m t' roots m.starts (done + 1)
    explore_fresh fine =
        let after : Going m t' roots m.starts done = going_push m t t' roots q (done % 2) m.starts done parity (omega arith) h pushed off below good explore_from (omega arith) fine in
        let apart : done / 2 ≡ t.tail → ⊥ = λ s. omega arith in
        let same : m.next (conf (entry t') (done / 2)) (done % 2) ≡ q =
        ap (λ x. m.next (x / 2) (done % 2)) (pushed.entries.others (done / 2) apart) ∙ sym q_is in
        record {
          size = after.size;
          held = after.held;
          swept = swept_more m (seen t') (entry t') t'.tail m.starts done after.swept (ap (seen t') same ∙ pushed.sees.here);
          unmarked = after.unmarked;
        }

    pub explore_bad : m.bad q ≡ true → Caught m t' roots t.tail
    explore_bad wrong = caught_push m t t' roots q (done % 2) m.starts done parity (omega arith) h pushed off below good explore_from wrong
