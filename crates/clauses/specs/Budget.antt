-- What a step may take of the work that it is given. Assumes nothing.
use Rattle.std.specs.Prelude.{◌≡◌, ℕ, ◌+◌, ◌<◌, ◌≤◌}

-- of `work`, `left` is left, at most `limit` was taken; where `Out` holds it was used up, and was less than the limit
pub record Spent (work left limit : ℕ) (Out : Type 0) : Type 0 where
  pub less : left ≤ work
  pub bound : work ≤ left + limit
  pub none : Out → left ≡ 0
  pub short : Out → work < limit
