-- How an exhaustive sweep ends, and what is enough for it. Assumes nothing.
use Rattle.std.specs.Prelude.{◌≡◌, ℕ, suc, ◌+◌, ◌*◌, ◌/◌, ◌<◌, ◌≤◌, cond, ◌⊎◌, List, length, nat_le, Some, None, Option, Ok, Err, Result, slice_index}
use Rattle.budget.specs.declared.Exhausted.{Exhausted}
use Rattle.rows.specs.Row.{row_in}
use Rattle.reach.specs.Model.{Model, Safe, Leads}
use Rattle.reach.specs.declared.exhaustive.Reached.{Reached}

-- how many words a set of the numbers below n takes
abbrev pub sets_words : ℕ → ℕ
sets_words n = (n + 63) / 64

-- three sets and a queue
abbrev pub table_words : ℕ → ℕ
table_words n = 3 * sets_words n + cond (nat_le n 1048576) ((n + 2) / 3) n

-- with what the message takes, after a gap left for the caller
abbrev pub words_for : ℕ → ℕ → ℕ
words_for n gap = table_words n + gap + suc (sets_words n)

abbrev pub turns_for : ℕ → ℕ
turns_for n = 6 * n + 8

-- the sweep of m, with so much work at first and so much left, leaves the room so
abbrev pub Ended : Model → ℕ → ℕ → ℕ → List ℕ → Result (Option Reached) Exhausted → Type 0
Ended m work left gap room (Ok None) = Safe m
Ended m work left gap room (Ok (Some r)) = Leads m r.start (row_in room r.at) × (r.at ≡ table_words m.count + gap) × (slice_index room r.at ≤ m.count)
Ended m work left gap room (Err e) = ((left ≡ 0) × (work < turns_for m.count)) ⊎ ((left ≡ work) × (length room < words_for m.count gap))
