-- What a machine and a store mean in the model. Assumes nothing.
use Rattle.std.specs.Prelude.{ℕ, List, length, vec_items, slice_index_or}
use Rattle.model.specs.Parser as M
use Rattle.syntax.specs.View.{parser_of}
use Rattle.rows.specs.Row.{bit_in}
use Rattle.machine.specs.Row.{headers}
use Rattle.machine.specs.declared.machine.Machine.{Machine}
use Rattle.machine.specs.declared.store.Store.{Store}

-- the parser that a machine runs
abbrev pub parser_in : Machine → M.Parser
parser_in m = parser_of m.checked.parser

abbrev pub sizes_in : Machine → List ℕ
sizes_in m = vec_items m.checked.parser.sizes

-- state q of it
abbrev pub state_in : Machine → ℕ → M.State
state_in m q = slice_index_or (parser_in m).states q M.no_state

-- how many bits it takes
abbrev pub width_in : Machine → ℕ → ℕ
width_in m q = M.width (parser_in m) (state_in m q)

abbrev pub state_count : Machine → ℕ
state_count m = length (parser_in m).states

-- what is in the headers
abbrev pub contents : Machine → Store → M.Store
contents m s = headers (bit_in s.words) 0 (sizes_in m)

-- where a state leads, once its ops are done
abbrev pub selected : M.Store → M.State → M.Target
selected s z = M.select s z.keys z.cases z.otherwise
