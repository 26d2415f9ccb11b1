use Rattle.std.proofs.Common.{◌≡◌, ◌≤◌, Bool, false, true, ℕ, List, ◌++◌, length, take, drop, sym, refl, ap, ◌∙◌, take-append-drop, length-take-le}
use Rattle.std.proofs.lemmas.Bool.{both_ways}
use Rattle.model.specs.Parser.{same_bits}
use Rattle.machine.specs.Row.{bit_in, part}
use Rattle.machine.proofs.Rows.{length_part}
use Rattle.machine.proofs.Same.{same_decides}
use Rattle.machine.proofs.eval.HeldSink.header.Goals as goal

-- what the store was asked of the first n bits
module _ (f : ℕ → ℕ) (start n : ℕ) (bs first : List ℕ) {r : Bool} (first_is : first ≡ take n bs) (short : n ≤ length bs) (told : r ≡ same_bits (part f start (length first)) first) where
  as_many : length first ≡ n
  as_many = ap length first_is ∙ length-take-le n bs short

  asked : r ≡ same_bits (part f start n) (take n bs)
  asked = told ∙ ap (λ k. same_bits (part f start k) first) as_many ∙ ap (same_bits (part f start n)) first_is

  apart : r ≡ false → take (length (part f start n)) bs ≡ part f start n → ⊥
  apart no' e =
      both_ways r no' (asked ∙ (same_decides (part f start n) (take n bs)).1 (sym e ∙ ap (λ k. take k bs) (length_part f start n)))

  whole : r ≡ true → bs ≡ part f start n ++ drop n bs
  whole yes' = sym (take-append-drop n bs) ∙ ap (λ xs. xs ++ drop n bs) (sym ((same_decides (part f start n) (take n bs)).0 (sym asked ∙ yes')))

pub returns-then-not-holds : goal.returns-then-not-holds
returns-then-not-holds c = apart (bit_in c.args.self.now.store.now.words) c.args.start c.args.n c.args.self.now.bits.now _ c.split_at.ensures.front c.requires.room c.holds.ensures c.if-not-holds.true

pub returns : goal.returns
returns c = (
  refl,
  whole (bit_in c.args.self.now.store.now.words) c.args.start c.args.n c.args.self.now.bits.now _ c.split_at.ensures.front c.requires.room c.holds.ensures c.if-not-holds.false
      ∙ ap (λ xs. part (bit_in c.args.self.now.store.now.words) c.args.start c.args.n ++ xs) (sym c.split_at.ensures.back),
)
