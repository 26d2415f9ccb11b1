-- What a side, a configuration by value and a product mean in the model. Assumes nothing.
use Rattle.std.specs.Prelude.{ℕ, ◌^◌, ◌<◌, List}
use Rattle.model.specs.Parser as M
use Rattle.model.specs.Config as C
use Rattle.model.specs.Refusal.{sum, widest}
use Rattle.model.specs.Request.{Comparison}
use Rattle.model.specs.Theory.{comparison}
use Rattle.syntax.specs.View.{target_of}
use Rattle.theory.specs.Good.{Good}
use Rattle.theory.specs.Number.{number_bits, parted, number_buffer}
use Rattle.machine.specs.View.{parser_in}
use Rattle.product.specs.declared.config.Config.{Config}
use Rattle.product.specs.declared.product.Product.{Product}
use Rattle.product.specs.declared.side.Side.{Side}

-- the parser of a side
abbrev pub side_parser : Side → M.Parser
side_parser s = parser_in s.machine

-- headers with the bits of a number
abbrev pub store_of : List ℕ → ℕ → M.Store
store_of ns k = parted ns (number_bits (sum ns) k)

abbrev pub config_in : M.Parser → Config → C.Config
config_in p c =
    record { target = target_of c.target; store = store_of p.sizes c.headers; buffer = number_buffer (widest p.sizes p.states) c.buffer }

-- it is a good configuration, and no bits are lost in its numbers
pub record Stands (p : M.Parser) (c : Config) : Type 0 where
  pub good : Good p (config_in p c)
  pub headers : c.headers < 2 ^ sum p.sizes
  pub some : 0 < c.buffer
  pub buffer : c.buffer < 2 ^ widest p.sizes p.states

-- what two parsers are compared by, with no budget
abbrev pub comparison_of : Product → Comparison
comparison_of s = comparison (side_parser s.first.side) (side_parser s.second.side) s.first.side.start s.second.side.start
