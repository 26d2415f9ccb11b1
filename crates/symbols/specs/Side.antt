-- One side of a leap: a configuration whose bits lie at positions, and what becomes of it in symbols. Assumes nothing.
use Rattle.std.specs.Prelude.{◌≡◌, ℕ, ◌+◌, ◌-◌, ◌<◌, ◌≤◌, true, false, List, [], take}
use Rattle.model.specs.Parser as M
use Rattle.model.specs.Refusal.{named_target}
use Rattle.model.specs.Config.{Config, needs, steps}
use Rattle.syntax.specs.View.{target_of}
use Rattle.machine.specs.View.{parser_in, selected, sizes_in, state_in, state_count}
use Rattle.machine.specs.declared.machine.Machine.{Machine}
use Rattle.theory.specs.Leap.{is_reject}
use Rattle.machine.specs.Row.{part, headers}
use Rattle.symbols.specs.Symbol.{row_sense, store_sense}
use Rattle.symbols.specs.View.{symbols_in, header_bits}
use Rattle.symbols.specs.declared.point.Point.{Point}
use Rattle.symbols.specs.declared.point.Places.{Places}
use Rattle.symbols.specs.declared.point.Leapt.{Leapt}
use Rattle.symbols.specs.declared.point.Leapt.TheVariants.{Waits, Walked, Ended}

-- how many bits the target of a point takes in all
abbrev pub needed : Machine → Point → ℕ
needed m a = needs (parser_in m) (target_of a.target)

-- how many it still needs
abbrev pub missing : Machine → Point → ℕ
missing m a = needed m a - a.taken

-- the target is there, and has fewer bits than it needs
pub record Stands (m : Machine) (a : Point) : Type 0 where
  pub known : named_target (state_count m) (target_of a.target) ≡ true
  pub ready : a.taken < needed m a

-- a leap that ends at a target's last bit at the latest; after reject any does
abbrev pub Within : Machine → Point → ℕ → Type 0
Within m a k = is_reject (target_of a.target) ≡ false → a.taken + k ≤ needed m a

-- headers from one position on, and buffered bits from another
abbrev pub at_positions : (ℕ → ℕ) → Machine → Point → Places → Config
at_positions ν m a at = record { target = target_of a.target; store = headers ν at.head (sizes_in m); buffer = part ν at.sofar a.taken }

-- what a leap's result tells, of the store and the buffer after it
abbrev pub after : Machine → Point → Leapt → M.Store → M.Bits → Config
after m a Waits s bs = record { target = target_of a.target; store = s; buffer = bs }
after m a (Walked q) s bs = record { target = selected s (state_in m q); store = s; buffer = [] }
after m a Ended s bs = record { target = M.reject; store = s; buffer = [] }

-- when it tells so
abbrev pub When : Machine → Point → ℕ → Leapt → Type 0
When m a k Waits = a.taken + k < needed m a
When m a k (Walked q) = (target_of a.target ≡ M.state q) × (q < state_count m)
When m a k Ended = is_reject (target_of a.target) ≡ false → target_of a.target ≡ M.accept

-- whatever bit is at each position, after the k from `fresh` on a configuration is what the symbols say
abbrev pub Told : Machine → Point → Places → ℕ → Leapt → List ℕ → List ℕ → Type 0
Told m a at k r heads buffer =
    (ν : ℕ → ℕ) →
    steps (parser_in m) (at_positions ν m a at) (part ν at.fresh k)
    ≡ after m a r (store_sense ν (symbols_in m heads)) (row_sense ν (take (a.taken + k) buffer))

-- all positions of a leap are below `top`
pub record WithinTop (m : Machine) (a : Point) (at : Places) (k top : ℕ) : Type 0 where
  pub heads : at.head + header_bits m ≤ top
  pub buffered : at.sofar + a.taken ≤ top
  pub fresh : at.fresh + k ≤ top
