-- Configurations of a parser, and what one bit of input does to them. Assumes nothing.
use Rattle.std.specs.Prelude.{◌≡◌, ℕ, ◌<◌, Bool, true, false, cond, [], ◌∷◌, ◌++◌, length, get_or, nat_lt, slice_index_or}
use Rattle.model.specs.Parser.{Bits, Target, state, accept, reject, State, Parser, Store, width, run_ops, select, no_state}

-- where a parser is: a state or an end, what is in the headers, and the bits that the state has taken so far
pub record Config : Type 0 where
  pub target : Target
  pub store : Store
  pub buffer : Bits

-- how many bits a target takes before anything happens
unfoldable pub needs : Parser → Target → ℕ
needs p (state q) = width p (slice_index_or p.states q no_state)
needs p accept = 1
needs p reject = 1

-- the configuration after a target has all its bits; one more bit after an end is reject
unfoldable pub transition : Parser → Config → Bits → Target → Config
transition p a bs (state q) =
    let z : State = get_or p.states q no_state in
    let t : Store = run_ops p.sizes z.ops bs a.store in
    record { target = select t z.keys z.cases z.otherwise; store = t; buffer = [] }
transition p a bs accept = record { target = reject; store = a.store; buffer = [] }
transition p a bs reject = record { target = reject; store = a.store; buffer = [] }

-- one bit
abbrev pub step : Parser → Config → ℕ → Config
step p a b =
    let bs : Bits = a.buffer ++ (b ∷ []) in
    cond (nat_lt (length bs) (needs p a.target)) (record { target = a.target; store = a.store; buffer = bs }) (transition p a bs a.target)

-- one bit after the other
unfoldable pub steps : Parser → Config → Bits → Config
steps p a [] = a
steps p a (b ∷ bs) = steps p (step p a b) bs

unfoldable pub is_accept : Target → Bool
is_accept (state q) = false
is_accept accept = true
is_accept reject = false

-- at the beginning of a state
abbrev pub initial : ℕ → Store → Config
initial q s = record { target = state q; store = s; buffer = [] }

-- a relation of configurations that accept alike, and that each bit keeps
abbrev pub Bisimulation : Parser → Parser → (Config → Config → Type 0) → Type 0
Bisimulation p q r = (a b : Config) → r a b → (is_accept a.target ≡ is_accept b.target) × ((c : ℕ) → c < 2 → r (step p a c) (step q b c))
