-- What is settled of a request is what is promised of its answer.
use Rattle.std.proofs.Common.{◌≡◌, ℕ, Bool, List, length, Ok, Err, sym, refl, ◌∙◌, ap₂, arith}
use Rattle.model.specs.Request as M
use Rattle.model.specs.Request.{parse, compare, garbled, refused, lent, refusal, offset}
use Rattle.model.specs.Promise.{Promised}
use Rattle.reply.specs.View.{answer_of}
use Rattle.reply.specs.declared.answer.Answer.{Answer}
use Rattle.settling.specs.declared.refusal.Refusal.{Refusal}
use Rattle.settling.specs.declared.halt.Halt.TheVariants.{Refused}
use Rattle.settling.specs.Refusing.{number_of, offset_of, Settled}

-- what is lent changes no refusal
module _ (can : ℕ → Bool) (n : ℕ) where
  lent_refusal : (q : M.Request) → refusal can (lent n q) ≡ refusal can q
  lent_refusal (parse p s i bs) = refl
  lent_refusal (compare c) = refl
  lent_refusal (garbled k) = refl

  lent_offset : (q : M.Request) → offset (lent n q) ≡ offset q
  lent_offset (parse p s i bs) = refl
  lent_offset (compare c) = refl
  lent_offset (garbled k) = refl

module _ (can : ℕ → Bool) (q : M.Request) (room room' : List ℕ) where
  pub settled_answer : (a : Answer) → Settled can q room room' (Ok a) → Promised can (lent (length room) q) (answer_of room' a)
  settled_answer a (fine, right, answered) =
      let none = lent_refusal can (length room) q ∙ fine in
      record { refuses = λ l. absurd (omega (arith, none, l)); right = λ _. right; answers = λ _. answered }

  pub settled_refused : (r : Refusal) → Settled can q room room' (Err (Refused r)) → Promised can (lent (length room) q) (refused (number_of r) (offset_of r))
  settled_refused r (is, some, o) =
      let by = lent_refusal can (length room) q ∙ is in
      record {
        refuses = λ _. ap₂ refused (sym by) (o ∙ sym (lent_offset can (length room) q));
        right = λ z. absurd (omega (arith, by, z, some));
        answers = λ z. absurd (omega (arith, by, z, some));
      }
