-- By which number and offset a request is refused, or what is settled of one. Assumes nothing.
use Rattle.std.specs.Prelude.{◌≡◌, ℕ, ◌<◌, Bool, List, length, Ok, Err, Result}
use Rattle.model.specs.Request as M
use Rattle.model.specs.Request.{lent, refusal, offset}
use Rattle.model.specs.Promise.{RightAnswer, Answered}
use Rattle.checks.specs.Number as checks
use Rattle.reply.specs.View.{answer_of}
use Rattle.reply.specs.declared.answer.Answer.{Answer}
use Rattle.reply.specs.declared.answer.Answer.TheVariants.{Refused as ToRefuse}
use Rattle.settling.specs.declared.refusal.Refusal.{Refusal}
use Rattle.settling.specs.declared.refusal.Refusal.TheVariants.{Garbled, Wrong, Unfit}
use Rattle.settling.specs.declared.halt.Halt.{Halt}
use Rattle.settling.specs.declared.halt.Halt.TheVariants.{Refused, Memory}

abbrev pub number_of : Refusal → ℕ
number_of (Garbled k) = 1
number_of (Wrong f) = checks.number_of f
number_of Unfit = 7

abbrev pub offset_of : Refusal → ℕ
offset_of (Garbled k) = k
offset_of (Wrong f) = 0
offset_of Unfit = 0

abbrev pub refused_by : Refusal → Answer
refused_by r = ToRefuse (number_of r) (offset_of r)

-- of a request and a stage that can do such kinds, with this room at first and at last: nothing is wrong with it and this is its answer, or this is
-- the first that is; want of memory says nothing of it
abbrev pub Settled : (ℕ → Bool) → M.Request → List ℕ → List ℕ → Result Answer Halt → Type 0
Settled can q room room' (Ok a) = (refusal can q ≡ 0) × RightAnswer (lent (length room) q) (answer_of room' a) × Answered (lent (length room) q) (answer_of room' a)
Settled can q room room' (Err (Refused r)) = (refusal can q ≡ number_of r) × (0 < number_of r) × (offset_of r ≡ offset q)
Settled can q room room' (Err (Memory e)) = Unit {0}
