-- The bytes of requests and answers, written before what comes next; what can be written; and that it is read back. Assumes nothing.
use Rattle.std.specs.Prelude.{◌≡◌, ℕ, zero, suc, ◌/◌, ◌%◌, ◌^◌, ◌≤◌, Bool, true, false, ◌&&◌, List, [], ◌∷◌, ◌++◌, length, nat_lt}
use Rattle.model.specs.Parser.{Bits, Expr, header, bits, slice, join, Op, extract, assign, Target, state, accept, reject, Pattern, exactly, any, Case, State, Parser, Store}
use Rattle.model.specs.Refusal.{every}
use Rattle.model.specs.Request.{Request, compare, parse, garbled, Answer, refused, verdict, equivalent, distinguished, exhausted}
use Rattle.format.specs.Read.{got}
use Rattle.format.specs.Format.{asked_from, read_answer}

-- a number of so many bytes, the highest first
abbrev pub number : ℕ → ℕ → List ℕ → List ℕ
number zero v rest = rest
number (suc n) v rest = v / 256 ^ n % 256 ∷ number n v rest

-- things one after the other
abbrev pub many : {X : Type 0} → (X → List ℕ → List ℕ) → List X → List ℕ → List ℕ
many f [] rest = rest
many f (x ∷ xs) rest = f x (many f xs rest)

-- how many things, and then these
abbrev pub counted : {X : Type 0} → (X → List ℕ → List ℕ) → List X → List ℕ → List ℕ
counted f xs rest = number 2 (length xs) (many f xs rest)

-- a row of bits, one to a byte, after how many there are as a number of so many bytes
abbrev pub row : ℕ → Bits → List ℕ → List ℕ
row k bs rest = number k (length bs) (bs ++ rest)

abbrev pub expr : Expr → List ℕ → List ℕ
expr (header h) rest = 0 ∷ number 2 h rest
expr (bits bs) rest = 1 ∷ row 2 bs rest
expr (slice e lo hi) rest = 2 ∷ number 2 lo (number 2 hi (expr e rest))
expr (join d e) rest = 3 ∷ expr d (expr e rest)

abbrev pub op : Op → List ℕ → List ℕ
op (extract h) rest = 0 ∷ number 2 h rest
op (assign h e) rest = 1 ∷ number 2 h (expr e rest)

abbrev pub target : Target → List ℕ → List ℕ
target (state q) rest = 0 ∷ number 2 q rest
target accept rest = 1 ∷ rest
target reject rest = 2 ∷ rest

abbrev pub pattern : Pattern → List ℕ → List ℕ
pattern (exactly bs) rest = 0 ∷ row 2 bs rest
pattern any rest = 1 ∷ rest

abbrev pub a_case : Case → List ℕ → List ℕ
a_case c rest = counted pattern c.patterns (target c.target rest)

abbrev pub a_state : State → List ℕ → List ℕ
a_state q rest = counted op q.ops (counted expr q.keys (counted a_case q.cases (target q.otherwise rest)))

abbrev pub parser : Parser → List ℕ → List ℕ
parser p rest = counted (number 2) p.sizes (counted a_state p.states rest)

abbrev pub store : Store → List ℕ → List ℕ
store s rest = counted (row 2) s rest

-- a request's bytes; what is garbled has none of its own
abbrev pub request : Request → List ℕ
request (parse p s q bs) = 0 ∷ parser p (store s (number 2 q (row 4 bs [])))
request (compare c) = 1 ∷ parser c.first (parser c.second (number 2 c.first_state (number 2 c.second_state (number 8 c.work (number 8 c.room [])))))
request (garbled n) = []

abbrev pub bool : Bool → ℕ
bool false = 0
bool true = 1

-- an answer's number and its values
abbrev pub answer : Answer → List ℕ
answer (refused n k) = 0 ∷ number 1 n (number 8 k [])
answer (verdict b) = 1 ∷ bool b ∷ []
answer (equivalent w r) = 2 ∷ number 8 w (number 8 r [])
answer (distinguished s t bs w r) = 3 ∷ store s (store t (row 8 bs (number 8 w (number 8 r []))))
answer (exhausted w r) = 4 ∷ number 8 w (number 8 r [])

-- What can be written: numbers fit their fields, and there are no more things than can be counted

-- fits so many bytes
abbrev pub fits : ℕ → ℕ → Bool
fits k n = nat_lt n (256 ^ k)

abbrev pub fit_row : ℕ → Bits → Bool
fit_row k bs = fits k (length bs)

abbrev pub fit_counted : {X : Type 0} → (X → Bool) → List X → Bool
fit_counted f xs = fits 2 (length xs) && every f xs

abbrev pub fit_expr : Expr → Bool
fit_expr (header h) = fits 2 h
fit_expr (bits bs) = fit_row 2 bs
fit_expr (slice e lo hi) = fits 2 lo && (fits 2 hi && fit_expr e)
fit_expr (join d e) = fit_expr d && fit_expr e

abbrev pub fit_op : Op → Bool
fit_op (extract h) = fits 2 h
fit_op (assign h e) = fits 2 h && fit_expr e

abbrev pub fit_target : Target → Bool
fit_target (state q) = fits 2 q
fit_target accept = true
fit_target reject = true

abbrev pub fit_pattern : Pattern → Bool
fit_pattern (exactly bs) = fit_row 2 bs
fit_pattern any = true

abbrev pub fit_case : Case → Bool
fit_case c = fit_counted fit_pattern c.patterns && fit_target c.target

abbrev pub fit_state : State → Bool
fit_state q = fit_counted fit_op q.ops && (fit_counted fit_expr q.keys && (fit_counted fit_case q.cases && fit_target q.otherwise))

abbrev pub fit_parser : Parser → Bool
fit_parser p = fit_counted (fits 2) p.sizes && fit_counted fit_state p.states

abbrev pub fit_store : Store → Bool
fit_store s = fit_counted (fit_row 2) s

abbrev pub fit_request : Request → Bool
fit_request (parse p s q bs) = fit_parser p && (fit_store s && (fits 2 q && fit_row 4 bs))
fit_request (compare c) =
    fit_parser c.first && (fit_parser c.second && (fits 2 c.first_state && (fits 2 c.second_state && (fits 8 c.work && fits 8 c.room))))
fit_request (garbled n) = false

abbrev pub fit_answer : Answer → Bool
fit_answer (refused n k) = fits 1 n && fits 8 k
fit_answer (verdict b) = true
fit_answer (equivalent w r) = fits 8 w && fits 8 r
fit_answer (distinguished s t bs w r) = fit_store s && (fit_store t && (fit_row 8 bs && (fits 8 w && fits 8 r)))
fit_answer (exhausted w r) = fits 8 w && fits 8 r

-- each request that can be written, in at most 2^20 bytes, is read back as it was written
unfoldable pub RequestsReadBack : Type 0
RequestsReadBack = (q : Request) → fit_request q ≡ true → length (request q) ≤ 1048576 → asked_from (request q) ≡ q

-- each answer that can be written is read back as it was written
unfoldable pub AnswersReadBack : Type 0
AnswersReadBack = (a : Answer) → fit_answer a ≡ true → read_answer (answer a) ≡ got a []
