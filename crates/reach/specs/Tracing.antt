-- Between two turns of the way back and of the message. Assumes nothing.
use Rattle.std.specs.Prelude.{◌≡◌, ℕ, suc, ◌+◌, ◌-◌, ◌<◌, ◌≤◌, Bool, true, false, List, ◌++◌, drop}
use Rattle.rows.specs.Row.{bits_in}
use Rattle.reach.specs.Model.{Model, follow}
use Rattle.reach.specs.Tables.{path, entry}
use Rattle.reach.specs.Held.{Held, conf, steps}
use Rattle.reach.specs.Ways.{spelled, way_bits}
use Rattle.reach.specs.declared.tables.Tables.{Tables}

-- the way is known from entry k on, and no entry from j on is a parent of k
pub record Tracing (m : Model) (sn odd : ℕ → Bool) (e : ℕ → ℕ) (on : ℕ → Bool) (roots last k j : ℕ) : Type 0 where
  pub held : Held m sn odd e roots (last + 1)
  pub wrong : m.bad (conf e last) ≡ true
  pub order : j ≤ k
  pub under : k ≤ last
  pub none : (x : ℕ) → j ≤ x → x < k → steps m odd e x k ≡ false
  pub marked : on k ≡ true
  pub top : on last ≡ true
  pub below : (x : ℕ) → x < k → on x ≡ false
  pub led : follow m.next (conf e k) (spelled e on (suc k) (last - k)) ≡ conf e last

-- `len` bits of the message are written, those of the entries below `next`
pub record Spelling (t : Tables) (message : List ℕ) (root last next len : ℕ) : Type 0 where
  pub bits : bits_in (drop 1 message) 0 len ++ spelled (entry t) (path t) next (suc last - next) ≡ way_bits t root last
  pub ahead : len + suc root ≤ next
  pub near : next ≤ suc last
