-- How the search in a room that is large enough ends. Assumes nothing.
use Rattle.std.specs.Prelude.{ℕ, ◌≤◌, List, Some, None, Option, Ok, Err, Result, slice_index}
use Rattle.budget.specs.declared.Exhausted.{Exhausted}
use Rattle.rows.specs.Row.{row_in}
use Rattle.reach.specs.Model.{Model, Safe, Leads}
use Rattle.reach.specs.Ended.{turns_for}
use Rattle.reach.specs.Phases.{Short}

-- the message is to stand at the first of these words
abbrev pub Sought : Model → ℕ → ℕ → List ℕ → Result (Option ℕ) Exhausted → Type 0
Sought m work left message (Ok None) = Safe m
Sought m work left message (Ok (Some start)) = Leads m start (row_in message 0) × (slice_index message 0 ≤ m.count)
Sought m work left message (Err e) = Short work left (turns_for m.count)
