-- What a turn of the way back keeps. Assumes nothing.
use Rattle.std.proofs.Common.{◌≡◌, ℕ, suc, ◌+◌, ◌-◌, ◌/◌, ◌%◌, ◌<◌, ◌≤◌, Bool, true, false, ◌&&◌, eqb, ◌∷◌, sym, refl, ap, ◌∙◌, subst, ⊎_elim, arith}
use mathlib.Core.Bool.{beq}
use Rattle.std.proofs.lemmas.Bool.{cases_eq, cases_lt, and_left, and_parts, eqb-true, false≢true}
use Rattle.reach.specs.Model.{Model, follow}
use Rattle.reach.specs.Tables.{seen, odd_in, path, entry, Changed, Marked}
use Rattle.reach.specs.Held.{conf, by_bit, differ, steps, Begins, Held}
use Rattle.reach.specs.Phases.{Caught}
use Rattle.reach.specs.Ways.{spelled, WayFrom}
use Rattle.reach.specs.Tracing.{Tracing}
use Rattle.reach.specs.declared.tables.Tables.{Tables}
use Rattle.reach.proofs.Spellings.{spelled_skip, spelled-take, spelled_none, spelled_same}

steps_to : (m : Model) (odd : ℕ → Bool) (e : ℕ → ℕ) (j k : ℕ) → steps m odd e j k ≡ true → m.next (conf e j) (by_bit e k) ≡ conf e k
unfolding steps
steps_to m odd e j k does = eqb-true _ _ (and_parts (differ (odd j) (odd k)) (eqb (m.next (conf e j) (by_bit e k)) (conf e k)) does).1

module _ (m : Model) (sn odd : ℕ → Bool) (e : ℕ → ℕ) (roots last : ℕ) where
  -- at the bad entry
  tracing_first : (on on' : ℕ → Bool) → Held m sn odd e roots (last + 1) → m.bad (conf e last) ≡ true → ((x : ℕ) → on x ≡ false) → Changed Bool on on' last true → Tracing m sn odd e on' roots last last last
  tracing_first on on' held wrong none change = record {
    held = held;
    wrong = wrong;
    order = omega arith;
    under = omega arith;
    none = λ x l r. absurd (omega arith);
    marked = change.here;
    top = change.here;
    below = λ x l. change.others x (λ s. omega arith) ∙ none x;
    led = ap (follow m.next (conf e last)) (spelled_none e on' (suc last) (last - last) (omega arith));
  }

  module _ (on : ℕ → Bool) (k j : ℕ) (h : Tracing m sn odd e on roots last k j) where
    -- a parent stands below
    pub parent_below : roots ≤ k → 0 < j
    parent_below some =
        ⊎_elim
        (λ (w : (k < roots) × Begins m (conf e k)). absurd (omega (arith, w.0)))
        (λ (w : (roots ≤ k) × ((i : ℕ) × (i < k) × (steps m odd e i k ≡ true))). ⊎_elim
        (λ (lt : w.1.0 < j). let pos : 0 < j = omega arith in pos)
        (λ (ge : j ≤ w.1.0). absurd (false≢true (sym (h.none w.1.0 ge w.1.1) ∙ w.1.2)))
        (cases_lt w.1.0 j))
        (h.held.origin k (omega (arith, h.under)))

    pub tracing_past : 0 < j → false ≡ steps m odd e (j - 1) k → Tracing m sn odd e on roots last k (j - 1)
    tracing_past some fails = record {
      held = h.held;
      wrong = h.wrong;
      order = omega (arith, h.order);
      under = h.under;
      none = λ x l r. ⊎_elim
          (λ (s : x ≡ j - 1). ap (λ y. steps m odd e y k) s ∙ sym fails)
          (λ (ne : x ≡ j - 1 → ⊥). h.none x (omega arith) r)
          (cases_eq x (j - 1));
      marked = h.marked;
      top = h.top;
      below = h.below;
      led = h.led;
    }

    -- entry i is a parent, and marked
    module _ (on' : ℕ → Bool) (i : ℕ) (less : i < k) (change : Changed Bool on on' i true) where
      later : (x : ℕ) → k ≤ x → on' x ≡ on x
      later x l = change.others x (λ s. omega arith)

      spelled_more : spelled e on' (suc i) (last - i) ≡ by_bit e k ∷ spelled e on (suc k) (last - k)
      spelled_more =
          spelled_skip e on' (k - suc i) (suc i) k (last - i) (suc (last - k)) (omega arith) (omega (arith, h.under))
          (λ x l r. change.others x (λ s. omega arith) ∙ h.below x r)
          ∙ spelled-take e on' k (suc (last - k)) (last - k) refl (later k (omega arith) ∙ h.marked)
          ∙ ap (λ bs. by_bit e k ∷ bs) (spelled_same e on on' (suc k) (last - k) (λ x l. later x (omega arith)))

      tracing_step : steps m odd e i k ≡ true → Tracing m sn odd e on' roots last i i
      tracing_step does = record {
        held = h.held;
        wrong = h.wrong;
        order = omega arith;
        under = omega (arith, h.under);
        none = λ x l r. absurd (omega arith);
        marked = change.here;
        top = later last h.under ∙ h.top;
        below = λ x l. change.others x (λ s. omega arith) ∙ h.below x (omega arith);
        led =
            ap (follow m.next (conf e i)) spelled_more
            ∙ ap (λ y. follow m.next y (spelled e on (suc k) (last - k))) (steps_to m odd e i k does)
            ∙ h.led;
      }

abbrev pub TracingIn : Model → Tables → ℕ → ℕ → ℕ → ℕ → Type 0
TracingIn m t roots last k j = Tracing m (seen t) (odd_in t) (entry t) (path t) roots last k j

module _ (m : Model) (t t' : Tables) (roots last : ℕ) where
  moved : (i k j : ℕ) → Marked t t' i → Tracing m (seen t) (odd_in t) (entry t) (path t') roots last k j → TracingIn m t' roots last k j
  moved i k j mark h =
      subst (λ f. Tracing m f (odd_in t') (entry t') (path t') roots last k j) (sym mark.sees)
      (subst (λ f. Tracing m (seen t) f (entry t') (path t') roots last k j) (sym mark.odds)
      (subst (λ f. Tracing m (seen t) (odd_in t) f (path t') roots last k j) (sym mark.entries) h))

  pub trace_first : Caught m t roots last → Marked t t' last → TracingIn m t' roots last last last
  trace_first caught mark =
      moved last last last mark
      (tracing_first m (seen t) (odd_in t) (entry t) roots last (path t) (path t') (subst (Held m (seen t) (odd_in t) (entry t) roots) caught.tail caught.held) caught.wrong caught.unmarked mark.paths)

  pub trace_step : (k j : ℕ) → TracingIn m t roots last k j → 0 < j → true ≡ steps m (odd_in t) (entry t) (j - 1) k → Marked t t' (j - 1) → TracingIn m t' roots last (j - 1) (j - 1)
  trace_step k j h some does mark =
      moved (j - 1) (j - 1) (j - 1) mark
      (tracing_step m (seen t) (odd_in t) (entry t) roots last (path t) k j h (path t') (j - 1) (omega (arith, h.order)) mark.paths (sym does))

pub trace_all : (m : Model) (t : Tables) (roots last k j : ℕ) → TracingIn m t roots last k j → last < t.count → k < roots → WayFrom m t last k
trace_all m t roots last k j h inside root = record {
  below = h.under;
  inside = inside;
  begins = ⊎_elim
      (λ (w : (k < roots) × Begins m (conf (entry t) k)). w.1)
      (λ (w : (roots ≤ k) × ((i : ℕ) × (i < k) × (steps m (odd_in t) (entry t) i k ≡ true))). absurd (omega (arith, w.0)))
      (h.held.origin k (omega (arith, h.under)));
  ends = ap m.bad h.led ∙ h.wrong;
  top = h.top;
}

-- the test of a parent
differ_no : (a b : Bool) → beq a b ≡ true → differ a b ≡ false
differ_no true true same = refl
differ_no true false same = sym same
differ_no false true same = sym same
differ_no false false same = refl

differ_so : (a b : Bool) → beq a b ≡ false → differ a b ≡ true
differ_so true true same = sym same
differ_so true false same = refl
differ_so false true same = refl
differ_so false false same = sym same

module _ (m : Model) (odd : ℕ → Bool) (e : ℕ → ℕ) (j k : ℕ) (a b : Bool) (a_is : odd j ≡ a) (b_is : odd k ≡ b) where
  pub no_parent : beq a b ≡ true → false ≡ steps m odd e j k
  unfolding steps
  no_parent same = sym (and_left (differ (odd j) (odd k)) (eqb (m.next (conf e j) (by_bit e k)) (conf e k)) (ap (λ x. differ x (odd k)) a_is ∙ ap (differ a) b_is ∙ differ_no a b same))

  pub parent_test : (v w q : ℕ) → v ≡ e k → w ≡ e j → q ≡ m.next (w / 2) (v % 2) → beq a b ≡ false → eqb q (v / 2) ≡ steps m odd e j k
  unfolding steps
  parent_test v w q v_is w-is q_is apart =
      ap (λ x. eqb x (v / 2)) (q_is ∙ ap (λ x. m.next (x / 2) (v % 2)) w-is ∙ ap (λ x. m.next (conf e j) (x % 2)) v_is)
      ∙ ap (λ x. eqb (m.next (conf e j) (by_bit e k)) (x / 2)) v_is
      ∙ sym (ap (λ x. x && eqb (m.next (conf e j) (by_bit e k)) (conf e k)) (ap (λ x. differ x (odd k)) a_is ∙ ap (differ a) b_is ∙ differ_so a b apart))
