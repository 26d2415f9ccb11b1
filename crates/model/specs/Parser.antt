-- Parsers of bits, and which inputs they accept. Assumes nothing: these are definitions.
use Rattle.std.specs.Prelude.{ℕ, zero, suc, ◌+◌, Bool, true, false, cond, ◌&&◌, List, [], ◌∷◌, ◌++◌, length, get_or, take, drop, ◌==◌, nat_le, slice_index, slice_index_or, slice_set}

-- a row of bits; the bit that is taken first comes first
abbrev pub Bits : Type 0
Bits = List ℕ

-- an expression copies bits: of a header, of a constant, from one bit of another up to and with a later one, or of two joined
pub data Expr : Type 0 where
  header : ℕ → Expr
  bits : Bits → Expr
  slice : Expr → ℕ → ℕ → Expr
  join : Expr → Expr → Expr

-- a header gets the next bits of the input, or the value of an expression
pub data Op : Type 0 where
  extract : ℕ → Op
  assign : ℕ → Expr → Op

-- where a state leads: to a state, or to an end
pub data Target : Type 0 where
  state : ℕ → Target
  accept : Target
  reject : Target

-- what a select key is held to: exactly these bits, or any
pub data Pattern : Type 0 where
  exactly : Bits → Pattern
  any : Pattern

-- a row of patterns, one for each select key, and where it leads
pub record Case : Type 0 where
  pub patterns : List Pattern
  pub target : Target

-- ops are done in order; then the first case that matches the select keys leads on, else `otherwise`
pub record State : Type 0 where
  pub ops : List Op
  pub keys : List Expr
  pub cases : List Case
  pub otherwise : Target

-- how many bits each header has, and the states
pub record Parser : Type 0 where
  pub sizes : List ℕ
  pub states : List State

-- what is in the headers
abbrev pub Store : Type 0
Store = List Bits

-- the bits of an expression
abbrev pub value : Store → Expr → Bits
value s (header h) = slice_index_or s h []
value s (bits bs) = bs
value s (slice e lo hi) = drop lo (take (suc hi) (value s e))
value s (join d e) = value s d ++ value s e

-- how many bits ops take from the input
abbrev pub ops_width : List ℕ → List Op → ℕ
ops_width ns [] = 0
ops_width ns (extract h ∷ os) = slice_index ns h + ops_width ns os
ops_width ns (assign h e ∷ os) = ops_width ns os

-- how many bits a state takes
abbrev pub width : Parser → State → ℕ
width p q = ops_width p.sizes q.ops

-- the store after ops, which take these bits
abbrev pub run_ops : List ℕ → List Op → Bits → Store → Store
run_ops ns [] bs s = s
run_ops ns (extract h ∷ os) bs s = run_ops ns os (drop (slice_index ns h) bs) (slice_set s h (take (slice_index ns h) bs))
run_ops ns (assign h e ∷ os) bs s = run_ops ns os bs (slice_set s h (value s e))

-- are two rows of bits the same
abbrev pub same_bits : Bits → Bits → Bool
same_bits [] [] = true
same_bits [] (y ∷ ys) = false
same_bits (x ∷ xs) [] = false
same_bits (x ∷ xs) (y ∷ ys) = x == y && same_bits xs ys

-- does each select key match its pattern
abbrev pub matches : Store → List Expr → List Pattern → Bool
matches s [] ps = true
matches s (e ∷ es) [] = true
matches s (e ∷ es) (any ∷ ps) = matches s es ps
matches s (e ∷ es) (exactly bs ∷ ps) = same_bits (value s e) bs && matches s es ps

-- where the first case that matches leads, else where `otherwise` does
abbrev pub select : Store → List Expr → List Case → Target → Target
select s es [] t = t
select s es (c ∷ cs) t = cond (matches s es c.patterns) c.target (select s es cs t)

-- what stands for a state that isn't there
abbrev pub no_state : State
no_state = record { ops = []; keys = []; cases = []; otherwise = reject }

-- is nothing left
abbrev pub empty : Bits → Bool
empty bs = length bs == 0

-- an answer by target: at accept this one, at reject no, at a state what the state answers
abbrev pub by_target : Target → Bool → (ℕ → Bool) → Bool
by_target accept b f = b
by_target reject b f = false
by_target (state q) b f = f q

-- is an input accepted from a target, in at most so many states: accept is come to just where nothing is left
unfoldable pub accepts_from : ℕ → Parser → Store → Target → Bits → Bool
accepts_from zero p s t bs = by_target t (empty bs) (λ q. false)
accepts_from (suc n) p s t bs =
    by_target t (empty bs) (λ q.
    let z : State = get_or p.states q no_state in
    cond (nat_le (width p z) (length bs))
    (let u : Store = run_ops p.sizes z.ops (take (width p z) bs) s in accepts_from n p u (select u z.keys z.cases z.otherwise) (drop (width p z) bs))
    false)

-- is an input accepted from a state; each state takes a bit at least, so one more state than bits is enough
abbrev pub accepts : Parser → Store → ℕ → Bits → Bool
accepts p s q bs = accepts_from (suc (length bs)) p s (state q) bs
