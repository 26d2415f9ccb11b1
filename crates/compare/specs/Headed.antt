-- What is in the headers of both parsers, as it stands in the room before a message. Assumes nothing.
use Rattle.std.specs.Prelude.{◌≡◌, ℕ, ◌+◌, ◌/◌, ◌%◌, ◌≤◌, List, slice_index}
use Rattle.model.specs.Parser.{Parser}
use Rattle.model.specs.Promise.{config_count}
use Rattle.machine.specs.View.{parser_in, sizes_in}
use Rattle.theory.specs.Number.{number_config}
use Rattle.rows.specs.Row.{store_in, store_end}
use Rattle.product.specs.declared.product.Product.{Product}
use Rattle.compare.specs.Pieces.{store_words}

abbrev pub first_in : Product → Parser
first_in s = parser_in s.first.side.machine

abbrev pub second_in : Product → Parser
second_in s = parser_in s.second.side.machine

-- how many numbers both take
abbrev pub header_room : Product → ℕ
header_room s = store_words (sizes_in s.first.side.machine) + store_words (sizes_in s.second.side.machine)

-- what is in the headers at a pair stands from `at` on, and what comes after it is as it was
pub record Headed (s : Product) (pair at : ℕ) (before room : List ℕ) : Type 0 where
  pub first : store_in room at ≡ (number_config (first_in s) (pair / config_count (second_in s))).store
  pub second : store_in room (store_end room at) ≡ (number_config (second_in s) (pair % config_count (second_in s))).store
  pub end : store_end room (store_end room at) ≡ at + header_room s
  pub rest : (k : ℕ) → at + header_room s ≤ k → slice_index room k ≡ slice_index before k
