-- What follows from the promise on each call, and which numbers a parser's fault can have.
use Rattle.std.proofs.Common.{◌≡◌, ℕ, ◌<◌, Bool, true, false, cond, ◌⊎◌, refl, inl, inr, arith}
use Rattle.model.specs.Refusal.{within_limits, named, sized, taking, narrow}
use Rattle.model.specs.Promise.{PromisedIsRight, Right, Enough, SoonForSmall}
use Rattle.model.specs.Request.{compare}
use Rattle.model.specs.Theory.{RightOrRefused}

pub promised_is_right : PromisedIsRight
unfolding PromisedIsRight Right Enough SoonForSmall
promised_is_right can f kept = (
  λ q. ((kept q).refuses, (kept q).right),
  λ c ok w r. ((kept (compare c)).answers ok).0 (w, r),
  λ c ok few w r. ((kept (compare c)).answers ok).1 (few, w, r),
)

-- five tests, one after the other
abbrev numbered : Bool → Bool → Bool → Bool → Bool → ℕ
numbered a b c d e = cond a (cond b (cond c (cond d (cond e 0 6) 5) 4) 3) 2

numbered_range : (a b c d e : Bool) → (numbered a b c d e ≡ 0) ⊎ ((1 < numbered a b c d e) × (numbered a b c d e < 7))
numbered_range false b c d e = inr (omega arith, omega arith)
numbered_range true false c d e = inr (omega arith, omega arith)
numbered_range true true false d e = inr (omega arith, omega arith)
numbered_range true true true false e = inr (omega arith, omega arith)
numbered_range true true true true false = inr (omega arith, omega arith)
numbered_range true true true true true = inl refl

pub right_or_refused : RightOrRefused
unfolding RightOrRefused
right_or_refused p = numbered_range (within_limits p) (named p) (sized p) (taking p) (narrow p)
