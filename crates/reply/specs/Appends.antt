-- What it is to write something at the end of bytes. Assumes nothing.
use Rattle.std.specs.Prelude.{◌≡◌, ℕ, List, ◌++◌}
use Rattle.format.specs.Written.{number, row, store}
use Rattle.reply.specs.Front.{front_row, front_store, past_store}

-- `bytes` puts something before whatever comes next, and just that was put after what stood there
abbrev pub Appends : (List ℕ → List ℕ) → List ℕ → List ℕ → Type 0
Appends bytes before after = (rest : List ℕ) → after ++ rest ≡ before ++ bytes rest

-- two numbers of 64 bits
abbrev pub budget : ℕ → ℕ → List ℕ → List ℕ
budget work left rest = number 8 work (number 8 left rest)

-- both headers' contents and the message, from the front of a part of the room
abbrev pub difference : List ℕ → List ℕ → List ℕ
difference part rest = store (front_store part) (store (front_store (past_store part)) (row 8 (front_row (past_store (past_store part))) rest))
