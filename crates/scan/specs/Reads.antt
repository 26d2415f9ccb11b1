-- What it is to have read something from bytes. Assumes nothing.
use Rattle.std.specs.Prelude.{◌≡◌, ℕ, ◌≤◌, Bool, false, List, length, drop, Some, None, Option, Result, MatchResult}
use Rattle.format.specs.Read.{Read, got, failed}
use Rattle.std.specs.declared.alloc.AllocError.{AllocError}
use Rattle.scan.specs.declared.fault.Fault.{Fault}
use Rattle.scan.specs.declared.fault.Fault.TheVariants.{Memory, Garbled}

-- a reader: its bytes, and the offset of what comes next in them
pub record Place : Type 0 where
  pub bytes : List ℕ
  pub at : ℕ

-- the bytes that are left to read
abbrev pub left : Place → List ℕ
left p = drop p.at p.bytes

-- the definition reads a value, what the code has means that value, and the next thing stands where the reader now is, in the same bytes
pub record Took {X Y : Type 0} (r : Read Y) (means : X → Y → Type 0) (old : Place) (x : X) (new : Place) : Type 0 where
  pub within : new.at ≤ length new.bytes
  pub same : new.bytes ≡ old.bytes
  pub value : Y
  pub reads : r ≡ got value (left new)
  pub meant : means x value

-- the definition reads nothing: the bytes cease to be one at `k`
pub record Ceased {Y : Type 0} (r : Read Y) (bytes : List ℕ) (k : ℕ) : Type 0 where
  pub within : k ≤ length bytes
  pub reads : r ≡ failed (drop k bytes)

-- why nothing was read
pub data Failed {Y : Type 0} (r : Read Y) (bytes : List ℕ) : Fault → Type 0 where
  ceased : {k : ℕ} → Ceased r bytes k → Failed r bytes (Garbled k)
  no_memory : {error : AllocError} → Failed r bytes (Memory error)

-- nothing was read, and the reader still has its bytes
pub record Stopped {Y : Type 0} (r : Read Y) (old new : Place) (e : Fault) : Type 0 where
  pub same : new.bytes ≡ old.bytes
  pub why : Failed r old.bytes e

-- what a reader returns that stood at one place and now stands at another: a value, or why there is none
abbrev pub Reads : {X Y : Type 0} → (List ℕ → Read Y) → (X → Y → Type 0) → Place → Place → Result X Fault → Type 0
Reads read means old new res = MatchResult res (λ x. Took (read (left old)) means old x new) (λ e. Stopped (read (left old)) old new e)

-- the code's value is that of the model
abbrev pub Is : {X Y : Type 0} → (X → Y) → X → Y → Type 0
Is f x y = f x ≡ y

-- the code's value is that of the model; or there is none, since an expression in it is nested too deep
abbrev pub Within : {X Y : Type 0} → (X → Y) → (Y → Bool) → Option X → Y → Type 0
Within f shallow (Some x) y = f x ≡ y
Within f shallow None y = shallow y ≡ false
