-- What stands in the first numbers.
use Rattle.std.proofs.Common.{◌≡◌, ℕ, ◌+◌, ◌<◌, ◌≤◌, List, Ok, Err, Result, length, get_or, take, sym, inl, inr, subst, slice_range, arith}
use Rattle.std.proofs.lemmas.Grind.{common_steps}
use Rattle.std.proofs.lemmas.List.{get_or-take, length-take-le}
use Rattle.clauses.specs.Clauses.{Stands}
use Rattle.entails.specs.Layouts.{Below, Beyond}
use Rattle.entails.specs.Surveys.{Scanned, Surveyed}
use Rattle.entails.specs.declared.Question.{Question}
use Rattle.entails.specs.declared.survey.Unfit.{Unfit}
use Rattle.entails.specs.declared.survey.Unfit.TheVariants.{Malformed, Wide, Worn}

pub first : (n : ℕ) (xs : List ℕ) → slice_range xs 0 n ≡ take n xs
first n xs = grind (arith, common_steps)

-- a list stands in the first numbers, and it stands below the limit
module _ (xs : List ℕ) (limit s : ℕ) (low : limit ≤ length xs) where
  pub stands_below : Stands (take limit xs) s → Below xs limit s
  stands_below h =
      let lt : s < limit = omega (arith, h, length-take-le limit xs low) in
      omega (arith, h, length-take-le limit xs low, get_or-take limit xs s 0 lt)

  pub below_stands : Below xs limit s → Stands (take limit xs) s
  below_stands h =
      let lt : s < limit = omega arith in
      omega (arith, h, length-take-le limit xs low, get_or-take limit xs s 0 lt)

  beyond_below : (n : ℕ) → Stands (take limit xs) s → Beyond (take limit xs) n s → Beyond xs n s
  beyond_below n h b =
      let below : s + get_or xs s 0 < limit = stands_below h in
      let lt : s < limit = omega arith in
      let small : b.0 < get_or xs s 0 = omega (arith, b.1, get_or-take limit xs s 0 lt) in
      (b.0, small, omega (arith, b.2, get_or-take limit xs (s + 1 + b.0) 0 (omega arith)))

-- a survey of a question's first numbers and starts
module _ (q : Question) (n left : ℕ) (low : q.used ≤ length q.numbers.now) (room : q.count ≤ length q.starts.now) where
  -- premise k was looked over
  pub premise_unfit : (k : ℕ) → k < q.count → (e : Unfit) → Scanned (take q.used q.numbers.now) (get_or (take q.count q.starts.now) k 0) n left (Err e) → Surveyed q n left (Err e)
  premise_unfit k l Malformed h = λ laid. h (subst (λ s. Stands (take q.used q.numbers.now) s) (sym (get_or-take q.count q.starts.now k 0 l)) (below_stands q.numbers.now q.used (get_or q.starts.now k 0) low (laid.each k l)))
  premise_unfit k l Wide h = inl (k, l, subst (λ s. Beyond q.numbers.now n s) (get_or-take q.count q.starts.now k 0 l) (beyond_below q.numbers.now q.used (get_or (take q.count q.starts.now) k 0) low n h.0 h.1))
  premise_unfit k l Worn h = h

  -- and the goal, after all premises
  pub goal_last : ((k : ℕ) → k < q.count → Stands (take q.used q.numbers.now) (get_or (take q.count q.starts.now) k 0)) → (r : Result (Unit {0}) Unfit) → Scanned (take q.used q.numbers.now) q.goal n left r → Surveyed q n left r
  goal_last each (Ok _) h = record {
    low = low;
    room = room;
    each = λ c l. stands_below q.numbers.now q.used (get_or q.starts.now c 0) low (subst (λ s. Stands (take q.used q.numbers.now) s) (get_or-take q.count q.starts.now c 0 l) (each c l));
    last = stands_below q.numbers.now q.used q.goal low h;
  }
  goal_last each (Err Malformed) h = λ laid. h (below_stands q.numbers.now q.used q.goal low laid.last)
  goal_last each (Err Wide) h = inr (beyond_below q.numbers.now q.used q.goal low n h.0 h.1)
  goal_last each (Err Worn) h = h
