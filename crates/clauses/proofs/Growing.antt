-- Lemmas that are added one after the other.
use Rattle.std.proofs.Common.{◌≡◌, ℕ, ◌+◌, ◌-◌, ◌*◌, ◌<◌, ◌≤◌, Bool, List, Result, Ok, Err, length, take, set, sym, refl, ap, ◌∙◌, subst, arith, length-set}
use Rattle.std.proofs.lemmas.List.{take-take, take-set}
use Rattle.clauses.specs.Clauses.{Sat, All, clause_at}
use Rattle.clauses.specs.Steps.{After, Both, ReadOn, stacked, Grown}
use Rattle.clauses.specs.declared.known.Known.{Known as Knowledge}
use Rattle.clauses.specs.declared.lists.Lists.{Lists}
use Rattle.clauses.specs.declared.stack.Stack.{Stack}
use Rattle.clauses.specs.declared.stop.Stop.{Stop}
use Rattle.clauses.specs.declared.stop.Stop.TheVariants.{Conflict, Refused, Exhausted}
use Rattle.clauses.proofs.Reading.{read_both}
use Rattle.clauses.proofs.Sats.{all_more}
use Rattle.clauses.proofs.Spending.{spent_none, spent_on}
use Rattle.clauses.proofs.Trails.{kept_none, kept_both}

pub both : (v : ℕ → Bool) (k : Knowledge) (cs : List (List ℕ)) (r : Result (Unit {0}) Stop) → After k v r → All v cs → Both k v cs r
both v k cs (Ok _) h all = (h, all)
both v k cs (Err Conflict) h all = h
both v k cs (Err Refused) h all = tt
both v k cs (Err Exhausted) h all = tt

front_more : (xs ys zs : List ℕ) (n m : ℕ) → n ≤ m → take n ys ≡ take n xs → take m zs ≡ take m ys → take n zs ≡ take n xs
front_more xs ys zs n m le p q = sym (take-take n m zs le) ∙ ap (take n) q ∙ take-take n m ys le ∙ p

-- some, and then more
pub grown_more : (most : ℕ) (l : Lists) (s : Stack) (k : Knowledge) (w : ℕ) (l₁ : Lists) (s₁ : Stack) (k₁ : Knowledge) (w₁ : ℕ) (l₂ : Lists) (s₂ : Stack) (k₂ : Knowledge) (w₂ : ℕ) (r : Result (Unit {0}) Stop) → Grown most l s k w l₁ s₁ k₁ w₁ (Ok tt) → Grown most l₁ s₁ k₁ w₁ l₂ s₂ k₂ w₂ r → Grown most l s k w l₂ s₂ k₂ w₂ r
grown_more most l s k w l₁ s₁ k₁ w₁ l₂ s₂ k₂ w₂ r g h = record {
  kept = kept_both k k₁ k₂ g.kept h.kept;
  after = λ v fits all.
      let p = g.after v fits all in
      subst (λ n. Both k₂ v (stacked n.now s₂) r) g.read.numbers (h.after v p.0 (subst (λ n. All v (stacked n.now s₁)) (sym g.read.numbers) p.1));
  front = front_more s.room.now s₁.room.now s₂.room.now s.len s₁.len g.grows g.front h.front;
  grows = omega (arith, g.grows, h.grows);
  room = h.room ∙ g.room;
  long = h.long ∙ g.long;
  read = read_both l l₁ l₂ g.read h.read;
  spent = spent_on w w₁ w₂ l.at l₁.at l₂.at most _ _ _ g.spent h.spent g.read.ahead h.read.ahead (λ o. o);
}

-- a number was read
pub grown_read : (most : ℕ) (l : Lists) (s : Stack) (k : Knowledge) (w : ℕ) (l₁ : Lists) → ReadOn l l₁ → Grown most l s k w l₁ s k w (Ok tt)
grown_read most l s k w l₁ read = record {
  kept = kept_none k;
  after = λ v fits all. (fits, all);
  front = refl;
  grows = omega arith;
  room = refl;
  long = refl;
  read = read;
  spent = spent_none w ((l₁.at - l.at) * most) _ (λ o. cc);
}

-- one more start
module _ (s s' : Stack) (at : ℕ) (room : s'.room.now ≡ set s.room.now s.len at) (len : s'.len ≡ s.len + 1) where
  pub one_long : length s'.room.now ≡ length s.room.now
  one_long = ap length room ∙ length-set s.room.now s.len at

  pub one_front : take s.len s'.room.now ≡ take s.len s.room.now
  one_front = ap (take s.len) room ∙ take-set s.room.now s.len at

  pub one_more : (v : ℕ → Bool) (numbers : List ℕ) → All v (stacked numbers s) → Sat v (clause_at numbers at) → All v (stacked numbers s')
  one_more v numbers all sat =
      let within : s.len < length s.room.now = omega (arith, s'.within, len, one_long) in
      rw (room, len) (all_more v numbers s.room.now s.len at within all sat)
