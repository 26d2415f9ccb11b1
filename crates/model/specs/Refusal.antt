-- What can be wrong with a parser, by number, and which stores and bits are right. Assumes nothing.
-- The numbers: 2 limits, 3 names, 4 widths, 5 a state that takes nothing, 6 a state that takes too much.
use Rattle.std.specs.Prelude.{ℕ, suc, ◌+◌, ◌-◌, max, Bool, true, false, cond, ◌&&◌, ltb, List, [], ◌∷◌, length, ◌==◌, nat_le, nat_lt, slice_index}
use Rattle.model.specs.Parser.{Bits, Expr, header, bits, slice, join, Op, extract, assign, Target, state, accept, reject, Pattern, exactly, any, Case, State, Parser, Store, ops_width}

-- does a test hold of each element
abbrev pub every : {X : Type 0} → (X → Bool) → List X → Bool
every f [] = true
every f (x ∷ xs) = f x && every f xs

-- the sum of a measure over all elements
abbrev pub total : {X : Type 0} → (X → ℕ) → List X → ℕ
total f [] = 0
total f (x ∷ xs) = f x + total f xs

abbrev pub sum : List ℕ → ℕ
sum ns = total (λ n. n) ns

-- 0 or 1 each
abbrev pub are_bits : Bits → Bool
are_bits bs = every (λ b. ltb b 2) bs

-- Parts: a state, an op, each expression, a case, a pattern, and each bit of bits or of a pattern

abbrev pub parts_expr : Expr → ℕ
parts_expr (header h) = 1
parts_expr (bits bs) = suc (length bs)
parts_expr (slice e lo hi) = suc (parts_expr e)
parts_expr (join d e) = suc (parts_expr d + parts_expr e)

abbrev pub parts_op : Op → ℕ
parts_op (extract h) = 1
parts_op (assign h e) = suc (parts_expr e)

abbrev pub parts_pattern : Pattern → ℕ
parts_pattern (exactly bs) = suc (length bs)
parts_pattern any = 1

abbrev pub parts_case : Case → ℕ
parts_case c = suc (total parts_pattern c.patterns)

abbrev pub parts_state : State → ℕ
parts_state q = suc (total parts_op q.ops + (total parts_expr q.keys + total parts_case q.cases))

-- Depth: with k left, at most k + 1 expressions in one another

abbrev pub shallow_expr : Expr → ℕ → Bool
shallow_expr (header h) k = true
shallow_expr (bits bs) k = true
shallow_expr (slice e lo hi) k = nat_lt 0 k && shallow_expr e (k - 1)
shallow_expr (join d e) k = nat_lt 0 k && (shallow_expr d (k - 1) && shallow_expr e (k - 1))

abbrev pub shallow : Expr → Bool
shallow e = shallow_expr e 15

abbrev pub shallow_op : Op → Bool
shallow_op (extract h) = true
shallow_op (assign h e) = shallow e

abbrev pub shallow_state : State → Bool
shallow_state q = every shallow_op q.ops && every shallow q.keys

-- 2 is about these
abbrev pub within_limits : Parser → Bool
within_limits p =
    ((every (ltb 0) p.sizes && nat_le (length p.sizes) 64) && (nat_le (sum p.sizes) 4096 && nat_le (length p.states) 64))
    && (nat_le (total parts_state p.states) 16384 && every shallow_state p.states)

-- Names: each header and each state that is named is there

abbrev pub named_expr : List ℕ → Expr → Bool
named_expr ns (header h) = nat_lt h (length ns)
named_expr ns (bits bs) = true
named_expr ns (slice e lo hi) = named_expr ns e
named_expr ns (join d e) = named_expr ns d && named_expr ns e

abbrev pub named_op : List ℕ → Op → Bool
named_op ns (extract h) = nat_lt h (length ns)
named_op ns (assign h e) = nat_lt h (length ns) && named_expr ns e

-- of so many states
abbrev pub named_target : ℕ → Target → Bool
named_target n (state q) = nat_lt q n
named_target n accept = true
named_target n reject = true

abbrev pub named_state : List ℕ → ℕ → State → Bool
named_state ns n q =
    (every (named_op ns) q.ops && every (named_expr ns) q.keys) && (every (λ c. named_target n c.target) q.cases && named_target n q.otherwise)

-- 3 is about these
abbrev pub named : Parser → Bool
named p = every (named_state p.sizes (length p.states)) p.states

-- Widths: slices lie within, what is assigned and each pattern has its width, and nothing is wider than 4,096

abbrev pub expr_width : List ℕ → Expr → ℕ
expr_width ns (header h) = slice_index ns h
expr_width ns (bits bs) = length bs
expr_width ns (slice e lo hi) = suc hi - lo
expr_width ns (join d e) = expr_width ns d + expr_width ns e

abbrev pub sized_expr : List ℕ → Expr → Bool
sized_expr ns (header h) = true
sized_expr ns (bits bs) = are_bits bs && nat_le (length bs) 4096
sized_expr ns (slice e lo hi) = (sized_expr ns e && nat_le lo hi) && nat_lt hi (expr_width ns e)
sized_expr ns (join d e) = (sized_expr ns d && sized_expr ns e) && nat_le (expr_width ns d + expr_width ns e) 4096

abbrev pub sized_op : List ℕ → Op → Bool
sized_op ns (extract h) = true
sized_op ns (assign h e) = sized_expr ns e && expr_width ns e == slice_index ns h

-- as many patterns as keys, each of its key's width
abbrev pub sized_patterns : List ℕ → List Expr → List Pattern → Bool
sized_patterns ns [] [] = true
sized_patterns ns [] (p ∷ ps) = false
sized_patterns ns (e ∷ es) [] = false
sized_patterns ns (e ∷ es) (any ∷ ps) = sized_patterns ns es ps
sized_patterns ns (e ∷ es) (exactly bs ∷ ps) = (are_bits bs && length bs == expr_width ns e) && sized_patterns ns es ps

abbrev pub sized_state : List ℕ → State → Bool
sized_state ns q = every (sized_op ns) q.ops && (every (sized_expr ns) q.keys && every (λ c. sized_patterns ns q.keys c.patterns) q.cases)

-- 4 is about these
abbrev pub sized : Parser → Bool
sized p = every (sized_state p.sizes) p.states

-- 5 is about these: each state takes a bit at least
abbrev pub taking : Parser → Bool
taking p = every (λ q. ltb 0 (ops_width p.sizes q.ops)) p.states

-- how many bits the widest state takes
abbrev pub widest : List ℕ → List State → ℕ
widest ns [] = 0
widest ns (q ∷ qs) = max (ops_width ns q.ops) (widest ns qs)

-- 6 is about this
abbrev pub narrow : Parser → Bool
narrow p = nat_le (widest p.sizes p.states) 4096

-- the first number that applies to a parser; 0 where none does
abbrev pub fault : Parser → ℕ
fault p = cond (within_limits p) (cond (named p) (cond (sized p) (cond (taking p) (cond (narrow p) 0 6) 5) 4) 3) 2

-- a store that a parser with headers of these sizes can have
abbrev pub store_fits : List ℕ → Store → Bool
store_fits [] [] = true
store_fits [] (b ∷ bs) = false
store_fits (n ∷ ns) [] = false
store_fits (n ∷ ns) (b ∷ bs) = (length b == n && are_bits b) && store_fits ns bs
