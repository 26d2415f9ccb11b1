-- The bytes of requests and answers, read. Assumes nothing.
use Rattle.std.specs.Prelude.{ℕ, zero, suc, ◌-◌, Bool, true, false, cond, List, [], ◌∷◌, length, take, nat_le}
use Rattle.model.specs.Parser.{Expr, header, bits, slice, join, Op, extract, assign, Target, state, accept, reject, Pattern, exactly, any, Case, State, Parser, Store}
use Rattle.model.specs.Request.{Request, compare, parse, garbled, Answer, refused, verdict, equivalent, distinguished, exhausted}
use Rattle.format.specs.Read.{Read, got, failed, bind, read_number, read_tagged, read_counted, read_row}

-- what comes after an expression's tag, its parts read by `self`: 0 header, 1 bits, 2 slice, 3 join
abbrev pub expr_choices : (List ℕ → Read Expr) → List ℕ → List (Read Expr)
expr_choices self bs =
    bind (read_number 2 bs) (λ h r. got (header h) r)
    ∷ bind (read_row 2 bs) (λ b r. got (bits b) r)
    ∷ bind (read_number 2 bs) (λ lo r. bind (read_number 2 r) (λ hi r. bind (self r) (λ e r. got (slice e lo hi) r)))
    ∷ bind (self bs) (λ d r. bind (self r) (λ e r. got (join d e) r))
    ∷ []

abbrev pub read_expr_by : (List ℕ → Read Expr) → List ℕ → Read Expr
read_expr_by self = read_tagged (expr_choices self)

-- an expression of at most so many in one another; each takes a byte at least, so as many as there are bytes is enough
unfoldable pub read_expr_within : ℕ → List ℕ → Read Expr
read_expr_within zero bs = failed []
read_expr_within (suc n) bs = read_expr_by (read_expr_within n) bs

unfoldable pub read_expr : List ℕ → Read Expr
read_expr bs = read_expr_within (length bs) bs

-- 0 extract, 1 assign
abbrev pub op_choices : List ℕ → List (Read Op)
op_choices bs = bind (read_number 2 bs) (λ h r. got (extract h) r) ∷ bind (read_number 2 bs) (λ h r. bind (read_expr r) (λ e r. got (assign h e) r)) ∷ []

abbrev pub read_op : List ℕ → Read Op
read_op = read_tagged op_choices

-- 0 a state, 1 accept, 2 reject
abbrev pub target_choices : List ℕ → List (Read Target)
target_choices bs = bind (read_number 2 bs) (λ q r. got (state q) r) ∷ got accept bs ∷ got reject bs ∷ []

abbrev pub read_target : List ℕ → Read Target
read_target = read_tagged target_choices

-- 0 exactly these bits, 1 any
abbrev pub pattern_choices : List ℕ → List (Read Pattern)
pattern_choices bs = bind (read_row 2 bs) (λ b r. got (exactly b) r) ∷ got any bs ∷ []

abbrev pub read_pattern : List ℕ → Read Pattern
read_pattern = read_tagged pattern_choices

abbrev pub read_case : List ℕ → Read Case
read_case bs = bind (read_counted read_pattern bs) (λ ps r. bind (read_target r) (λ t r. got (record { patterns = ps; target = t }) r))

-- ops, select keys, cases, otherwise
abbrev pub read_state : List ℕ → Read State
read_state bs =
    bind (read_counted read_op bs) (λ os r.
    bind (read_counted read_expr r) (λ es r.
    bind (read_counted read_case r) (λ cs r.
    bind (read_target r) (λ t r.
    got (record { ops = os; keys = es; cases = cs; otherwise = t }) r))))

-- sizes of headers, states
abbrev pub read_parser : List ℕ → Read Parser
read_parser bs = bind (read_counted (read_number 2) bs) (λ ns r. bind (read_counted read_state r) (λ qs r. got (record { sizes = ns; states = qs }) r))

-- each header's bits
abbrev pub read_store : List ℕ → Read Store
read_store = read_counted (read_row 2)

-- a parser, what is in its headers, a state, an input
abbrev pub read_parse : List ℕ → Read Request
read_parse bs =
    bind (read_parser bs) (λ p r.
    bind (read_store r) (λ s r.
    bind (read_number 2 r) (λ q r.
    bind (read_row 4 r) (λ b r.
    got (parse p s q b) r))))

-- two parsers, a state of each, work, room
abbrev pub read_compare : List ℕ → Read Request
read_compare bs =
    bind (read_parser bs) (λ p r.
    bind (read_parser r) (λ q r.
    bind (read_number 2 r) (λ i r.
    bind (read_number 2 r) (λ j r.
    bind (read_number 8 r) (λ w r.
    bind (read_number 8 r) (λ m r.
    got (compare (record { first = p; second = q; first_state = i; second_state = j; work = w; room = m })) r))))))

-- 0 parse, 1 compare
abbrev pub request_choices : List ℕ → List (Read Request)
request_choices bs = read_parse bs ∷ read_compare bs ∷ []

abbrev pub read_request : List ℕ → Read Request
read_request = read_tagged request_choices

-- of n bytes: the request, if nothing is left; else where they cease to be one
abbrev pub whole : ℕ → Read Request → Request
whole n (got q []) = q
whole n (got q (b ∷ rest)) = garbled (n - suc (length rest))
whole n (failed rest) = garbled (n - length rest)

-- a request has at most 2^20 bytes; of more, where the first 2^20 cease to be one, or their end
abbrev pub too_long : Request → Request
too_long (parse p s q bs) = garbled 1048576
too_long (compare c) = garbled 1048576
too_long (garbled n) = garbled n

-- what bytes ask
abbrev pub asked_from : List ℕ → Request
asked_from bs = cond (nat_le (length bs) 1048576) (whole (length bs) (read_request bs)) (too_long (whole 1048576 (read_request (take 1048576 bs))))

-- a byte that is 0 or 1
abbrev pub read_bool : List ℕ → Read Bool
read_bool = read_tagged (λ bs. got false bs ∷ got true bs ∷ [])

-- work and room that are left
abbrev pub read_left : (ℕ → ℕ → Answer) → List ℕ → Read Answer
read_left f bs = bind (read_number 8 bs) (λ w r. bind (read_number 8 r) (λ m r. got (f w m) r))

-- 0 refused (number, offset), 1 no or yes, 2 equivalent, 3 distinguished (both headers' contents, message), 4 exhausted; the last three with what is left
abbrev pub read_answer : List ℕ → Read Answer
read_answer =
    read_tagged (λ bs.
    bind (read_number 1 bs) (λ n r. bind (read_number 8 r) (λ k r. got (refused n k) r))
    ∷ bind (read_bool bs) (λ b r. got (verdict b) r)
    ∷ read_left equivalent bs
    ∷ bind (read_store bs) (λ s r. bind (read_store r) (λ t r. bind (read_row 8 r) (λ m r. read_left (distinguished s t m) r)))
    ∷ read_left exhausted bs
    ∷ [])
