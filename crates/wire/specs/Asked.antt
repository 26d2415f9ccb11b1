-- What a request of the code stands for, and a fault. Assumes nothing.
use Rattle.std.specs.Prelude.{◌≡◌, vec_items}
use Rattle.model.specs.Parser.{Parser, Store}
use Rattle.model.specs.Request as M
use Rattle.model.specs.Request.{parse, compare, garbled}
use Rattle.syntax.specs.View.{parser_of, store_of}
use Rattle.scan.specs.Reads.{Within}
use Rattle.scan.specs.declared.fault.Fault.{Fault}
use Rattle.scan.specs.declared.fault.Fault.TheVariants.{Memory, Garbled}
use Rattle.wire.specs.Kept.{shallow_parser}
use Rattle.wire.specs.declared.request.Parse.{Parse as ToParse}
use Rattle.wire.specs.declared.request.Compare.{Compare as ToCompare}
use Rattle.wire.specs.declared.request.Request.{Request}
use Rattle.wire.specs.declared.request.Request.TheVariants.{Parse, Compare}

-- a request to parse: the parser, if its expressions are nested no deeper than may be, what is in the headers, the state to begin from, the input
pub record Parses (r : ToParse) (q : M.Request) : Type 0 where
  pub parser : Parser
  pub store : Store
  pub is : q ≡ parse parser store r.start (vec_items r.input)
  pub parser_is : Within parser_of shallow_parser r.parser parser
  pub store_is : store_of r.headers ≡ store

-- a request to compare: both parsers likewise, a state of each, work and room
pub record Compares (r : ToCompare) (q : M.Request) : Type 0 where
  pub first : Parser
  pub second : Parser
  pub is : q ≡ compare (record { first = first; second = second; first_state = r.first_start; second_state = r.second_start; work = r.work; room = r.room })
  pub first_is : Within parser_of shallow_parser r.first first
  pub second_is : Within parser_of shallow_parser r.second second

abbrev pub Stands : Request → M.Request → Type 0
Stands (Parse r) q = Parses r q
Stands (Compare r) q = Compares r q

-- bytes that ask nothing; want of memory says nothing of them
abbrev pub Unasked : M.Request → Fault → Type 0
Unasked q (Garbled k) = q ≡ garbled k
Unasked q (Memory e) = Unit {0}
