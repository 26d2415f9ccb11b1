-- What the tables of a sweep hold, and what a write to them does. Assumes nothing.
use Rattle.std.specs.Prelude.{◌≡◌, ℕ, ◌+◌, Bool, true, false, ◌≢◌}
use Rattle.reach.specs.Sets.{member}
use Rattle.reach.specs.Layouts.{entry_in}
use Rattle.reach.specs.declared.tables.Tables.{Tables}

-- the configurations that were seen
abbrev pub seen : Tables → ℕ → Bool
seen t = member t.seen.now

-- the entries at an odd depth
abbrev pub odd_in : Tables → ℕ → Bool
odd_in t = member t.odd.now

-- the entries on the way to a bad one
abbrev pub path : Tables → ℕ → Bool
path t = member t.way.now

-- what stands at place k of the queue
abbrev pub entry : Tables → ℕ → ℕ
entry t = entry_in t.layout t.queue.now

abbrev pub Unmarked : Tables → Type 0
Unmarked t = (x : ℕ) → path t x ≡ false

-- tables for n configurations, of which none was seen
pub record Empty (t : Tables) (n : ℕ) : Type 0 where
  pub size : t.count ≡ n
  pub tail : t.tail ≡ 0
  pub unseen : (x : ℕ) → seen t x ≡ false
  pub unmarked : Unmarked t

-- at one place only, and there it is v
pub record Changed (A : Type 0) (f f' : ℕ → A) (at : ℕ) (v : A) : Type 0 where
  pub here : f' at ≡ v
  pub others : (x : ℕ) → (x ≢ at) → f' x ≡ f x

-- configuration q is seen and stands at the end of the queue
pub record Pushed (t t' : Tables) (q v : ℕ) (parity : Bool) : Type 0 where
  pub size : t'.count ≡ t.count
  pub tail : t'.tail ≡ t.tail + 1
  pub sees : Changed Bool (seen t) (seen t') q true
  pub parities : Changed Bool (odd_in t) (odd_in t') t.tail parity
  pub entries : Changed ℕ (entry t) (entry t') t.tail v
  pub paths : path t' ≡ path t

-- entry k is marked, and nothing else changes
pub record Marked (t t' : Tables) (k : ℕ) : Type 0 where
  pub size : t'.count ≡ t.count
  pub sees : seen t' ≡ seen t
  pub odds : odd_in t' ≡ odd_in t
  pub entries : entry t' ≡ entry t
  pub paths : Changed Bool (path t) (path t') k true
