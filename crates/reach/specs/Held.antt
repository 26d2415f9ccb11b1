-- What a sweep holds between two turns, in terms of sets and of the queue as functions. Assumes nothing.
use Rattle.std.specs.Prelude.{◌≡◌, ℕ, ◌+◌, ◌*◌, ◌/◌, ◌%◌, ◌<◌, ◌≤◌, Bool, true, false, cond, not, ◌&&◌, ◌⊎◌, ◌==◌}
use Rattle.reach.specs.Model.{Model}
use Rattle.reach.specs.Sets.{blanks}

-- an entry is twice a configuration, and the bit that it was reached by
abbrev pub conf : (ℕ → ℕ) → ℕ → ℕ
conf e k = e k / 2

abbrev pub by_bit : (ℕ → ℕ) → ℕ → ℕ
by_bit e k = e k % 2

abbrev pub Begins : Model → ℕ → Type 0
Begins m p = (i : ℕ) × (i < m.starts) × (m.start i ≡ p)

abbrev pub differ : Bool → Bool → Bool
differ a b = cond a (not b) b

-- from entry j, at a depth of the other parity, the bit of entry k leads to entry k
unfoldable pub steps : Model → (ℕ → Bool) → (ℕ → ℕ) → ℕ → ℕ → Bool
steps m odd e j k = differ (odd j) (odd k) && m.next (conf e j) (by_bit e k) == conf e k

-- where an entry comes from: the first ones are starts, and a parent of any other stands before it
abbrev pub Origin : Model → (ℕ → Bool) → (ℕ → ℕ) → ℕ → ℕ → Type 0
Origin m odd e roots k = ((k < roots) × Begins m (conf e k)) ⊎ ((roots ≤ k) × ((j : ℕ) × (j < k) × (steps m odd e j k ≡ true)))

-- the queue has as many entries as configurations were seen
pub record Held (m : Model) (seen odd : ℕ → Bool) (e : ℕ → ℕ) (roots tail : ℕ) : Type 0 where
  pub inside : (k : ℕ) → k < tail → conf e k < m.count
  pub good : (k : ℕ) → k < tail → m.good (conf e k) ≡ true
  pub origin : (k : ℕ) → k < tail → Origin m odd e roots k
  pub spare : tail + blanks seen m.count ≡ m.count

-- bit b of configuration p is still to be tried: turn `done` has entry done / 2 and bit done % 2
abbrev pub Waits : (ℕ → ℕ) → ℕ → ℕ → ℕ → ℕ → Type 0
Waits e tail done p b = (k : ℕ) × (k < tail) × (conf e k ≡ p) × (done ≤ 2 * k + b)

-- the first starts were seen, no bad configuration was, and what was seen leads to what was seen, but for what waits
pub record Swept (m : Model) (seen : ℕ → Bool) (e : ℕ → ℕ) (tail begun done : ℕ) : Type 0 where
  pub begins : (i : ℕ) → i < begun → seen (m.start i) ≡ true
  pub fine : (p : ℕ) → seen p ≡ true → m.bad p ≡ false
  pub closed : (p b : ℕ) → seen p ≡ true → b < 2 → (seen (m.next p b) ≡ true) ⊎ Waits e tail done p b
