-- What a turn of the search keeps. Assumes nothing.
use Rattle.std.proofs.Common.{◌≡◌, ℕ, ◌+◌, ◌*◌, ◌/◌, ◌%◌, ◌<◌, ◌≤◌, Bool, true, false, not, eqb, sym, refl, ap, ◌∙◌, subst, inl, inr, ⊎_elim, arith}
use Rattle.std.proofs.lemmas.Bool.{cases_eq, and_from, eq-eqb, false≢true}
use Rattle.reach.specs.Model.{Model}
use Rattle.reach.specs.Tables.{seen, odd_in, entry, Changed, Empty, Pushed, Unmarked}
use Rattle.reach.specs.Held.{conf, by_bit, differ, steps, Begins, Origin, Held, Waits, Swept}
use Rattle.reach.specs.Phases.{Going, Caught}
use Rattle.reach.specs.declared.tables.Tables.{Tables}
use Rattle.reach.proofs.Counts.{blanks_all, blanks_fall, blanks_some}

differ_not : (a : Bool) → differ a (not a) ≡ true
differ_not true = refl
differ_not false = refl

-- the sets and the queue before and after q comes into the queue
module _ (m : Model) (sn sn' odd odd' : ℕ → Bool) (e e' : ℕ → ℕ) (tail q b : ℕ) (parity : Bool) (small : b < 2) (cs : Changed Bool sn sn' q true) (co : Changed Bool odd odd' tail parity) (ce : Changed ℕ e e' tail (2 * q + b)) where
  new_conf : conf e' tail ≡ q
  new_conf = omega (arith, ce.here)

  new_bit : by_bit e' tail ≡ b
  new_bit = omega (arith, ce.here)

  old_entry : (k : ℕ) → k < tail → e' k ≡ e k
  old_entry k l = ce.others k (λ s. omega arith)

  old_odd : (k : ℕ) → k < tail → odd' k ≡ odd k
  old_odd k l = co.others k (λ s. omega arith)

  up : (x : ℕ) → sn x ≡ true → sn' x ≡ true
  up x on = ⊎_elim (λ (s : x ≡ q). ap sn' s ∙ cs.here) (λ (ne : x ≡ q → ⊥). cs.others x ne ∙ on) (cases_eq x q)

  steps_old : (j k : ℕ) → j < tail → k < tail → steps m odd' e' j k ≡ steps m odd e j k
  unfolding steps
  steps_old j k lj lk = rw (old_odd j lj, old_odd k lk, old_entry j lj, old_entry k lk)

  steps_new : (j : ℕ) → j < tail → parity ≡ not (odd j) → m.next (conf e j) b ≡ q → steps m odd' e' j tail ≡ true
  unfolding steps
  steps_new j l par to =
      and_from (differ (odd' j) (odd' tail)) (eqb (m.next (conf e' j) (by_bit e' tail)) (conf e' tail))
      (ap (λ x. differ x (odd' tail)) (old_odd j l) ∙ ap (differ (odd j)) (co.here ∙ par) ∙ differ_not (odd j))
      (eq-eqb _ _ (ap (λ x. m.next (x / 2) (by_bit e' tail)) (old_entry j l) ∙ ap (m.next (conf e j)) new_bit ∙ to ∙ sym new_conf))

  pub origin_start : (roots : ℕ) → tail < roots → Begins m q → Origin m odd' e' roots tail
  origin_start roots l from = inl (l, subst (Begins m) (sym new_conf) from)

  pub origin_step : (roots j : ℕ) → roots ≤ tail → j < tail → parity ≡ not (odd j) → m.next (conf e j) b ≡ q → Origin m odd' e' roots tail
  origin_step roots j r l par to = inr (r, (j, l, steps_new j l par to))

  origin_old : (roots k : ℕ) → k < tail → Origin m odd e roots k → Origin m odd' e' roots k
  origin_old roots k l from =
      ⊎_elim
      (λ (w : (k < roots) × Begins m (conf e k)). inl (w.0, subst (λ x. Begins m (x / 2)) (sym (old_entry k l)) w.1))
      (λ (w : (roots ≤ k) × ((j : ℕ) × (j < k) × (steps m odd e j k ≡ true))).
      let lj : w.1.0 < tail = omega (arith, w.1.1) in
      inr (w.0, (w.1.0, w.1.1, steps_old w.1.0 k lj l ∙ w.1.2)))
      from

  pub held_push : (roots : ℕ) → Held m sn odd e roots tail → sn q ≡ false → q < m.count → m.good q ≡ true → Origin m odd' e' roots tail → Held m sn' odd' e' roots (tail + 1)
  held_push roots h off below good from = record {
    inside = λ k l. ⊎_elim
        (λ (s : k ≡ tail). subst (λ x. conf e' x < m.count) (sym s) (omega (arith, new_conf)))
        (λ (ne : k ≡ tail → ⊥). subst (λ x. x / 2 < m.count) (sym (old_entry k (omega arith))) (h.inside k (omega arith)))
        (cases_eq k tail);
    good = λ k l. ⊎_elim
        (λ (s : k ≡ tail). subst (λ x. m.good (conf e' x) ≡ true) (sym s) (ap m.good new_conf ∙ good))
        (λ (ne : k ≡ tail → ⊥). ap (λ x. m.good (x / 2)) (old_entry k (omega arith)) ∙ h.good k (omega arith))
        (cases_eq k tail);
    origin = λ k l. ⊎_elim
        (λ (s : k ≡ tail). subst (Origin m odd' e' roots) (sym s) from)
        (λ (ne : k ≡ tail → ⊥). origin_old roots k (omega arith) (h.origin k (omega arith)))
        (cases_eq k tail);
    spare = omega (arith, h.spare, blanks_fall sn sn' q cs.others off cs.here m.count below);
  }

  pub swept_push : (begun done : ℕ) → Swept m sn e tail begun done → done ≤ 2 * tail → m.bad q ≡ false → Swept m sn' e' (tail + 1) begun done
  swept_push begun done h early fine = record {
    begins = λ i l. up (m.start i) (h.begins i l);
    fine = λ x on. ⊎_elim
        (λ (s : x ≡ q). ap m.bad s ∙ fine)
        (λ (ne : x ≡ q → ⊥). h.fine x (sym (cs.others x ne) ∙ on))
        (cases_eq x q);
    closed = λ x c on l. ⊎_elim
        (λ (s : x ≡ q).
        let last : tail < tail + 1 = omega arith in
        let later : done ≤ 2 * tail + c = omega arith in
        inr (tail, last, new_conf ∙ sym s, later))
        (λ (ne : x ≡ q → ⊥). ⊎_elim
        (λ to. inl (up (m.next x c) to))
        (λ (w : Waits e tail done x c).
        let lt : w.0 < tail + 1 = omega (arith, w.1) in
        inr (w.0, lt, ap (λ y. y / 2) (old_entry w.0 w.1) ∙ w.2, w.3))
        (h.closed x c (sym (cs.others x ne) ∙ on) l))
        (cases_eq x q);
  }

-- the turn's bit leads to what was seen
pub swept_more : (m : Model) (sn : ℕ → Bool) (e : ℕ → ℕ) (tail begun done : ℕ) → Swept m sn e tail begun done → sn (m.next (conf e (done / 2)) (done % 2)) ≡ true → Swept m sn e tail begun (done + 1)
swept_more m sn e tail begun done h to = record {
  begins = h.begins;
  fine = h.fine;
  closed = λ p b on l. ⊎_elim
      (λ into. inl into)
      (λ (w : Waits e tail done p b). ⊎_elim
      (λ (s : done ≡ 2 * w.0 + b).
      let from : done / 2 ≡ w.0 = omega arith in
      let bit : done % 2 ≡ b = omega arith in
      let p_is : conf e (done / 2) ≡ p = ap (conf e) from ∙ w.2 in
      inl (subst (λ y. sn (m.next p y) ≡ true) bit (subst (λ y. sn (m.next y (done % 2)) ≡ true) p_is to)))
      (λ (ne : done ≡ 2 * w.0 + b → ⊥).
      let later : done + 1 ≤ 2 * w.0 + b = omega (arith, w.3) in
      inr (w.0, w.1, w.2, later))
      (cases_eq done (2 * w.0 + b)))
      (h.closed p b on l);
}

-- the next start was seen
pub swept_begun : (m : Model) (sn : ℕ → Bool) (e : ℕ → ℕ) (tail begun done : ℕ) → Swept m sn e tail begun done → sn (m.start begun) ≡ true → Swept m sn e tail (begun + 1) done
swept_begun m sn e tail begun done h on = record {
  begins = λ i l. ⊎_elim
      (λ (s : i ≡ begun). ap (λ x. sn (m.start x)) s ∙ on)
      (λ (ne : i ≡ begun → ⊥). h.begins i (omega arith))
      (cases_eq i begun);
  fine = h.fine;
  closed = h.closed;
}

-- all entries are starts
pub held_roots : (m : Model) (sn odd : ℕ → Bool) (e : ℕ → ℕ) (roots tail : ℕ) → Held m sn odd e roots tail → tail ≤ roots → Held m sn odd e tail tail
held_roots m sn odd e roots tail h l = record {
  inside = h.inside;
  good = h.good;
  origin = λ k lt. ⊎_elim
      (λ (w : (k < roots) × Begins m (conf e k)). inl (lt, w.1))
      (λ (w : (roots ≤ k) × ((j : ℕ) × (j < k) × (steps m odd e j k ≡ true))). absurd (omega (arith, w.0)))
      (h.origin k lt);
  spare = h.spare;
}

pub room_left : (m : Model) (sn odd : ℕ → Bool) (e : ℕ → ℕ) (roots tail q : ℕ) → Held m sn odd e roots tail → sn q ≡ false → q < m.count → tail < m.count
room_left m sn odd e roots tail q h off below = omega (arith, h.spare, blanks_some sn q off m.count below)

-- nothing was seen yet
pub going_none : (m : Model) (t : Tables) → Empty t m.count → Going m t m.count 0 0
going_none m t none = record {
  size = none.size;
  held = record {
    inside = λ k l. absurd (omega (arith, none.tail));
    good = λ k l. absurd (omega (arith, none.tail));
    origin = λ k l. absurd (omega (arith, none.tail));
    spare = omega (arith, none.tail, blanks_all (seen t) none.unseen m.count);
  };
  swept = record {
    begins = λ i l. absurd (omega arith);
    fine = λ x on. absurd (false≢true (sym (none.unseen x) ∙ on));
    closed = λ x b on l. absurd (false≢true (sym (none.unseen x) ∙ on));
  };
  unmarked = none.unmarked;
}

-- q comes into the queue
module _ (m : Model) (t t' : Tables) (roots q b begun done : ℕ) (parity : Bool) (small : b < 2) (h : Going m t roots begun done) (pushed : Pushed t t' q (2 * q + b) parity) (off : seen t q ≡ false) (below : q < m.count) (good : m.good q ≡ true) (from : Origin m (odd_in t') (entry t') roots t.tail) where
  held_after : Held m (seen t') (odd_in t') (entry t') roots t'.tail
  held_after =
      subst (Held m (seen t') (odd_in t') (entry t') roots) (sym pushed.tail)
      (held_push m (seen t) (seen t') (odd_in t) (odd_in t') (entry t) (entry t') t.tail q b parity small pushed.sees pushed.parities pushed.entries roots h.held off below good from)

  unmarked_after : Unmarked t'
  unmarked_after x = ap (λ f. f x) pushed.paths ∙ h.unmarked x

  pub going_push : done ≤ 2 * t.tail → m.bad q ≡ false → Going m t' roots begun done
  going_push early fine = record {
    size = pushed.size ∙ h.size;
    held = held_after;
    swept =
        subst (λ n. Swept m (seen t') (entry t') n begun done) (sym pushed.tail)
        (swept_push m (seen t) (seen t') (odd_in t) (odd_in t') (entry t) (entry t') t.tail q b parity small pushed.sees pushed.parities pushed.entries begun done h.swept early fine);
    unmarked = unmarked_after;
  }

  pub caught_push : m.bad q ≡ true → Caught m t' roots t.tail
  caught_push wrong = record {
    size = pushed.size ∙ h.size;
    tail = pushed.tail;
    held = held_after;
    wrong = ap (λ x. m.bad (x / 2)) pushed.entries.here ∙ ap m.bad (let e : (2 * q + b) / 2 ≡ q = omega arith in e) ∙ wrong;
    unmarked = unmarked_after;
  }
