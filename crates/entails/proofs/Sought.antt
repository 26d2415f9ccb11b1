-- What is found for a question with its lemmas is found for the question.
use Rattle.std.proofs.Common.{◌≡◌, ℕ, ◌≤◌, Bool, length, sym, ◌∙◌, subst, arith}
use Rattle.clauses.specs.Clauses.{Follows, clause_at, premises}
use Rattle.entails.specs.Answers.{Refuted}
use Rattle.entails.specs.Layouts.{Front, Laid, Same}
use Rattle.entails.specs.Searches.{asked, wanted, Checked, Learned}
use Rattle.entails.specs.declared.search.Search.{Search}
use Rattle.entails.proofs.Moved.{follows_unmoved, front_more, refuted_unmoved}

-- a question s, and h with lemmas
module _ (s h : Search) (begins : s.given ≡ s.count) (l : Learned s h) where
  -- checked lemmas are the same
  pub learned_checked : (t : Search) → Checked h t → Learned s t
  learned_checked t c = record {
    numbers = subst (λ n. Same s.numbers n) (sym c.numbers) l.numbers;
    front = subst (λ n. Front s.used s.numbers.now n.now) (sym c.numbers) l.front;
    ahead = omega (arith, l.ahead, c.used);
    starts = (c.starts.0 ∙ l.starts.0, c.starts.1 ∙ l.starts.1);
    places = front_more s.count s.starts.now h.starts.now t.starts.now l.places (subst (λ n. Front n h.starts.now t.starts.now) (l.given ∙ begins) c.places);
    grows = omega (arith, l.grows, c.count);
    at = c.at ∙ l.at;
    given = c.given ∙ l.given;
    goal = c.goal ∙ l.goal;
  }

  module _ (laid : Laid s.numbers.now s.used s.starts.now s.count s.goal) where
    low : s.used ≤ length h.numbers.now
    low = omega (arith, l.numbers.1, laid.low)

    room : s.count ≤ length h.starts.now
    room = omega (arith, l.starts.1, laid.room)

    pub follows_asked : Follows (asked h) (wanted h) → Follows (premises s.numbers.now s.starts.now s.count) (clause_at s.numbers.now s.goal)
    follows_asked f =
        follows_unmoved s.numbers.now h.numbers.now s.starts.now h.starts.now s.used s.count s.goal laid l.front l.places low room
        (subst (λ n. Follows (premises h.numbers.now h.starts.now n) (clause_at h.numbers.now s.goal)) (l.given ∙ begins)
        (subst (λ g. Follows (asked h) (clause_at h.numbers.now g)) l.goal f))

    pub refuted_asked : (v : ℕ → Bool) → Refuted (asked h) (wanted h) v → Refuted (premises s.numbers.now s.starts.now s.count) (clause_at s.numbers.now s.goal) v
    refuted_asked v r =
        refuted_unmoved s.numbers.now h.numbers.now s.starts.now h.starts.now s.used s.count s.goal laid l.front l.places low room v
        (subst (λ n. Refuted (premises h.numbers.now h.starts.now n) (clause_at h.numbers.now s.goal) v) (l.given ∙ begins)
        (subst (λ g. Refuted (asked h) (clause_at h.numbers.now g) v) l.goal r))
