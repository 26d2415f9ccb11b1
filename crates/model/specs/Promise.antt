-- What is promised of an answer, and of a program. Assumes nothing: each promise is a type, whose proof is owed.
use Rattle.std.specs.Prelude.{◌≡◌, ℕ, ◌+◌, ◌*◌, ◌^◌, ◌<◌, ◌≤◌, Bool, true, false, ◌⊎◌, length}
use Rattle.model.specs.Parser.{Bits, Parser, Store, accepts}
use Rattle.model.specs.Refusal.{are_bits, store_fits, sum, widest}
use Rattle.model.specs.Request.{Comparison, Request, compare, parse, garbled, Answer, refused, verdict, equivalent, distinguished, exhausted, refusal, offset}

-- two parsers are equivalent: whatever was in the headers of both at first, independently, both accept an input or neither does
abbrev pub Equivalent : Comparison → Type 0
Equivalent c =
    (s t : Store) (bs : Bits) → store_fits c.first.sizes s ≡ true → store_fits c.second.sizes t ≡ true → are_bits bs ≡ true
    → accepts c.first s c.first_state bs ≡ accepts c.second t c.second_state bs

-- two parsers are distinguished by what was in their headers and by a message: exactly one accepts it
abbrev pub Distinguished : Comparison → Store → Store → Bits → Type 0
Distinguished c s t bs =
    (store_fits c.first.sizes s ≡ true) × (store_fits c.second.sizes t ≡ true) × (are_bits bs ≡ true)
    × ((accepts c.first s c.first_state bs ≡ accepts c.second t c.second_state bs) → ⊥)

-- what an answer says is true, and no more is left than was given; the budget is used up only if work is 0 or less than 65,536 of room is left
abbrev pub RightAnswer : Request → Answer → Type 0
RightAnswer (compare c) (refused j k) = ⊥
RightAnswer (compare c) (verdict b) = ⊥
RightAnswer (compare c) (equivalent w r) = (w ≤ c.work) × (r ≤ c.room) × Equivalent c
RightAnswer (compare c) (distinguished s t bs w r) = (w ≤ c.work) × (r ≤ c.room) × Distinguished c s t bs
RightAnswer (compare c) (exhausted w r) = (w ≤ c.work) × (r ≤ c.room) × ((w ≡ 0) ⊎ (r < 65536))
RightAnswer (parse p s q bs) (refused j k) = ⊥
RightAnswer (parse p s q bs) (verdict b) = b ≡ accepts p s q bs
RightAnswer (parse p s q bs) (equivalent w r) = ⊥
RightAnswer (parse p s q bs) (distinguished u t cs w r) = ⊥
RightAnswer (parse p s q bs) (exhausted w r) = ⊥
RightAnswer (garbled n) a = ⊥

abbrev pub is_exhausted : Answer → Bool
is_exhausted (refused j k) = false
is_exhausted (verdict b) = false
is_exhausted (equivalent w r) = false
is_exhausted (distinguished s t bs w r) = false
is_exhausted (exhausted w r) = true

-- how many configurations a parser can have: a state or an end, with two for each bit in headers and in the widest state
abbrev pub config_count : Parser → ℕ
config_count p = (2 + length p.states) * 2 ^ (sum p.sizes + widest p.sizes p.states)

abbrev pub pair_count : Comparison → ℕ
pair_count c = config_count c.first * config_count c.second

-- what is enough to compare any two parsers: sixteen times their pairs of configurations, of room 65,536 more
abbrev pub Plenty : Comparison → Type 0
Plenty c = (16 * pair_count c ≤ c.work) × (16 * pair_count c + 65536 ≤ c.room)

-- what is enough for small ones: with at most 2^20 pairs, 2^24 of work and 2^19 of room
abbrev pub PlentyForSmall : Comparison → Type 0
PlentyForSmall c = (pair_count c ≤ 1048576) × (16777216 ≤ c.work) × (524288 ≤ c.room)

-- given what is enough, the answer is not that the budget is used up
abbrev pub Answered : Request → Answer → Type 0
Answered (compare c) a = (Plenty c → is_exhausted a ≡ false) × (PlentyForSmall c → is_exhausted a ≡ false)
Answered (parse p s q bs) a = is_exhausted a ≡ false
Answered (garbled n) a = is_exhausted a ≡ false

-- THE MAIN PROMISE, of one request and its answer: refused by the first number that applies, or answered right, and answered where enough was given
pub record Promised (can : ℕ → Bool) (q : Request) (a : Answer) : Type 0 where
  pub refuses : 0 < refusal can q → a ≡ refused (refusal can q) (offset q)
  pub right : refusal can q ≡ 0 → RightAnswer q a
  pub answers : refusal can q ≡ 0 → Answered q a

-- a program answers every request
pub record Program : Type 0 where
  pub says : Request → Answer

unfoldable pub Right : (ℕ → Bool) → Program → Type 0
Right can f =
    (q : Request) → (0 < refusal can q → f.says q ≡ refused (refusal can q) (offset q)) × (refusal can q ≡ 0 → RightAnswer q (f.says q))

unfoldable pub Enough : (ℕ → Bool) → Program → Type 0
Enough can f =
    (c : Comparison) → refusal can (compare c) ≡ 0 → 16 * pair_count c ≤ c.work → 16 * pair_count c + 65536 ≤ c.room → is_exhausted (f.says (compare c)) ≡ false

unfoldable pub SoonForSmall : (ℕ → Bool) → Program → Type 0
SoonForSmall can f =
    (c : Comparison) → refusal can (compare c) ≡ 0 → pair_count c ≤ 1048576 → 16777216 ≤ c.work → 524288 ≤ c.room → is_exhausted (f.says (compare c)) ≡ false

-- nothing is lost by promising it of each call: a function that keeps the promise on every request is a right program, that answers where enough was given
unfoldable pub PromisedIsRight : Type 0
PromisedIsRight =
    (can : ℕ → Bool) (f : Program) → ((q : Request) → Promised can q (f.says q)) → Right can f × Enough can f × SoonForSmall can f
