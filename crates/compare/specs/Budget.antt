-- What is compared, what it takes of the room, and what a sweep through all pairs tells. Assumes nothing.
use Rattle.std.specs.Prelude.{◌≡◌, ℕ, ◌+◌, ◌<◌, ◌≤◌}
use Rattle.model.specs.Request as M
use Rattle.model.specs.Request.{Comparison, refused, verdict, equivalent, distinguished, exhausted}
use Rattle.model.specs.Promise.{Equivalent, Distinguished, pair_count}
use Rattle.machine.specs.View.{parser_in}
use Rattle.product.specs.declared.side.Side.{Side}
use Rattle.reach.specs.Ended.{sets_words, table_words, turns_for}

-- two parsers, a state of each, work and room
abbrev pub compared : Side → Side → ℕ → ℕ → Comparison
compared s t w r =
    record { first = parser_in s.machine; second = parser_in t.machine; first_state = s.start; second_state = t.start; work = w; room = r }

-- the tables of a sweep through so many pairs, and the longest message
abbrev pub room_for : ℕ → ℕ
room_for n = table_words n + sets_words n

-- of two parsers, with so much work at first and so much room left: what is told is true, and the work is used up only where it was too little
abbrev pub Told : Comparison → ℕ → ℕ → M.Answer → Type 0
Told c work left (refused j k) = ⊥
Told c work left (verdict b) = ⊥
Told c work left (equivalent w r) = (w ≤ work) × (r ≡ left) × Equivalent c
Told c work left (distinguished s t bs w r) = (w ≤ work) × (r ≡ left) × Distinguished c s t bs
Told c work left (exhausted w r) = (w ≡ 0) × (r ≡ left) × (work < turns_for (pair_count c))
