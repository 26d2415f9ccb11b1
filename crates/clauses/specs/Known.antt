-- What is known of the valuations looked at, and the trail by which it is undone. Assumes nothing.
use Rattle.std.specs.Prelude.{◌≡◌, ℕ, ◌-◌, ◌<◌, ◌≤◌, Bool, ◌⊎◌, List, length, slice_index, Option, Some, None}
use Rattle.clauses.specs.Clauses.{bit, Sat, All}
use Rattle.clauses.specs.declared.known.Known.{Known as Knowledge}
use Rattle.clauses.specs.declared.bits.Bit.{Bit}
use Rattle.clauses.specs.declared.bits.Bit.TheVariants.{Known, Open}
use Rattle.clauses.specs.declared.look.Look.{Look}
use Rattle.clauses.specs.declared.look.Look.TheVariants.{Dead, One, Other}

-- the valuation v agrees with rep, which has 0, 1 or 2 + a position with the same bit for each position, and with value: 0, 1 or 2, unknown
pub record Fits (v : ℕ → Bool) (rep value : List ℕ) : Type 0 where
  pub fixed : (p : ℕ) → p < length rep → slice_index rep p < 2 → bit (v p) ≡ slice_index rep p
  pub equal : (p : ℕ) → p < length rep → 2 ≤ slice_index rep p → bit (v p) ≡ bit (v (slice_index rep p - 2))
  pub known : (p : ℕ) → p < length value → slice_index value p < 2 → bit (v p) ≡ slice_index value p

-- what is known of the bits allows the valuation v
abbrev pub Allows : Knowledge → (ℕ → Bool) → Type 0
Allows k v = Fits v k.rep.now k.value.now

-- position q has a place in the lent room, and its bit is unknown
abbrev pub Unknown : List ℕ → ℕ → Type 0
Unknown value q = (q < length value) × (slice_index value q ≡ 2)

-- what is known of position p
abbrev pub Resolved : List ℕ → List ℕ → ℕ → Option Bit → Type 0
Resolved rep value p (Some (Known b)) = (v : ℕ → Bool) → Fits v rep value → bit (v p) ≡ bit b
Resolved rep value p (Some (Open q)) = Unknown value q × ((v : ℕ → Bool) → Fits v rep value → bit (v p) ≡ bit (v q))
Resolved rep value p None = Unit {0}

-- what a clause says beyond what is known: nothing can satisfy it, or it fixes one bit
abbrev pub Looked : Knowledge → List ℕ → Look → Type 0
Looked k ls Dead = (v : ℕ → Bool) → Allows k v → Sat v ls → ⊥
Looked k ls (One q b) = Unknown k.value.now q × ((v : ℕ → Bool) → Allows k v → Sat v ls → bit (v q) ≡ bit b)
Looked k ls Other = Unit {0}

-- q stands on the trail
abbrev pub On : List ℕ → ℕ → ℕ → ℕ → Type 0
On trail base depth q = (k : ℕ) × (base ≤ k) × (k < depth) × (slice_index trail k ≡ q)

-- since `before` only positions on the trail, from base on, became known
pub record Trailed (before value trail : List ℕ) (base depth : ℕ) : Type 0 where
  pub low : base ≤ depth
  pub deep : depth ≤ length trail
  pub long : length value ≡ length before
  pub changed : (q : ℕ) → (slice_index value q ≡ slice_index before q) ⊎ On trail base depth q
  pub was : (k : ℕ) → base ≤ k → k < depth → slice_index before (slice_index trail k) ≡ 2

-- the same of what is known, in its lent room
abbrev pub Since : List ℕ → ℕ → Knowledge → Type 0
Since before base k = Trailed before k.value.now k.trail.now base k.depth

-- what could so be undone still can, with the same representatives, in the same lent room
pub record Kept (k k' : Knowledge) : Type 0 where
  pub rep : k'.rep ≡ k.rep
  pub value : k'.value.ghost_name ≡ k.value.ghost_name
  pub trail : k'.trail.ghost_name ≡ k.trail.ghost_name
  pub bits : length k'.value.now ≡ length k.value.now
  pub steps : length k'.trail.now ≡ length k.trail.now
  pub undoes : (before : List ℕ) (base : ℕ) → Since before base k → Since before base k'

-- by the trail the bits are taken back from depth to base
abbrev pub TakenBack : List ℕ → List ℕ → ℕ → ℕ → List ℕ → Type 0
TakenBack value trail base depth value' = (before : List ℕ) (b : ℕ) → b ≤ base → base ≤ depth → Trailed before value trail b depth → Trailed before value' trail b base

-- taken back to base
pub record Undone (k : Knowledge) (base : ℕ) (k' : Knowledge) : Type 0 where
  pub rep : k'.rep ≡ k.rep
  pub value : k'.value.ghost_name ≡ k.value.ghost_name
  pub trail : k'.trail.ghost_name ≡ k.trail.ghost_name
  pub bits : length k'.value.now ≡ length k.value.now
  pub room : k'.trail.now ≡ k.trail.now
  pub depth : base ≤ k.depth → k'.depth ≡ base
  pub undoes : (before : List ℕ) (b : ℕ) → b ≤ base → base ≤ k.depth → Since before b k → Since before b k'

-- the clause is satisfied by each valuation that is allowed and satisfies the premises
abbrev pub Given : Knowledge → List (List ℕ) → List ℕ → Type 0
Given k cs ls = (v : ℕ → Bool) → Allows k v → All v cs → Sat v ls
