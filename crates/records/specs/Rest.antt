-- What is left of a file. Assumes nothing.
use Rattle.std.specs.Prelude.{ℕ, List}

-- what is left of a file, and its offset there
pub record Rest : Type 0 where
  pub bytes : List ℕ
  pub at : ℕ
