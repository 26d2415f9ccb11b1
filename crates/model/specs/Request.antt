-- What can be asked, what can be answered, and by which number a request is refused. Assumes nothing.
use Rattle.std.specs.Prelude.{ℕ, min, Bool, true, cond, ◌&&◌, length, ◌==◌, nat_le, nat_lt}
use Rattle.model.specs.Parser.{Bits, Parser, Store}
use Rattle.model.specs.Refusal.{are_bits, fault, store_fits}

-- two parsers, a state of each, and how much work and room may go into comparing them
pub record Comparison : Type 0 where
  pub first : Parser
  pub second : Parser
  pub first_state : ℕ
  pub second_state : ℕ
  pub work : ℕ
  pub room : ℕ

-- do two parsers accept the same; does a parser, with this in its headers and from this state, accept this input; or bytes that cease to be a request at an offset
pub data Request : Type 0 where
  compare : Comparison → Request
  parse : Parser → Store → ℕ → Bits → Request
  garbled : ℕ → Request

-- refused, by a number and an offset; of parsing, yes or no; of comparing one of three, each with the work and the room that are left:
-- the two are equivalent, or distinguished by what was in the first's and the second's headers and by a message, or the budget is used up
pub data Answer : Type 0 where
  refused : ℕ → ℕ → Answer
  verdict : Bool → Answer
  equivalent : ℕ → ℕ → Answer
  distinguished : Store → Store → Bits → ℕ → ℕ → Answer
  exhausted : ℕ → ℕ → Answer

-- a request's number; bytes that are no request have 255
abbrev pub kind : Request → ℕ
kind (parse p s q bs) = 0
kind (compare c) = 1
kind (garbled n) = 255

-- the first of two numbers that is not 0
abbrev pub first_of : ℕ → ℕ → ℕ
first_of a b = cond (a == 0) b a

-- is there such a state, such a store and such an input
abbrev pub parse_fits : Parser → Store → ℕ → Bits → Bool
parse_fits p s q bs = (nat_lt q (length p.states) && store_fits p.sizes s) && (are_bits bs && nat_le (length bs) 65536)

-- are there such states
abbrev pub compare_fits : Comparison → Bool
compare_fits c = nat_lt c.first_state (length c.first.states) && nat_lt c.second_state (length c.second.states)

-- what is wrong with a request that can be done: all of the first parser's, then all of the second's, then 7
abbrev pub request_fault : Request → ℕ
request_fault (parse p s q bs) = first_of (fault p) (cond (parse_fits p s q bs) 0 7)
request_fault (compare c) = first_of (fault c.first) (first_of (fault c.second) (cond (compare_fits c) 0 7))
request_fault (garbled n) = 1

-- by which number a request is refused, where `can` says which kinds can be done; 0: it is answered
abbrev pub refusal : (ℕ → Bool) → Request → ℕ
refusal can q = cond (kind q == 255) 1 (cond (can (kind q)) (request_fault q) 7)

-- where bytes cease to be a request; 0 for a request
abbrev pub offset : Request → ℕ
offset (parse p s q bs) = 0
offset (compare c) = 0
offset (garbled n) = n

-- the same request, with no more room than was lent
abbrev pub lent : ℕ → Request → Request
lent n (parse p s q bs) = parse p s q bs
lent n (compare c) =
    compare (record { first = c.first; second = c.second; first_state = c.first_state; second_state = c.second_state; work = c.work; room = min c.room n })
lent n (garbled k) = garbled k

-- which kinds can be done: at the first stage parsing alone, in the end all
abbrev pub parsing : ℕ → Bool
parsing k = k == 0

abbrev pub everything : ℕ → Bool
everything k = true
