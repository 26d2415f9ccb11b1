-- What is known of a state of a parser that is right, and of its expressions. Assumes nothing.
use Rattle.std.specs.Prelude.{◌≡◌, ℕ, ◌<◌, ◌≤◌, true, List}
use Rattle.model.specs.Parser.{Expr, State, ops_width}
use Rattle.model.specs.Refusal.{every, named_op, named_expr, named_target, sized_op, sized_expr, sized_patterns}

-- of headers with these sizes and so many states
pub record Sound (ns : List ℕ) (n : ℕ) (z : State) : Type 0 where
  pub named_ops : every (named_op ns) z.ops ≡ true
  pub named_keys : every (named_expr ns) z.keys ≡ true
  pub named_cases : every (λ c. named_target n c.target) z.cases ≡ true
  pub named_otherwise : named_target n z.otherwise ≡ true
  pub sized_ops : every (sized_op ns) z.ops ≡ true
  pub sized_keys : every (sized_expr ns) z.keys ≡ true
  pub sized_cases : every (λ c. sized_patterns ns z.keys c.patterns) z.cases ≡ true
  pub takes : 0 < ops_width ns z.ops
  pub narrow : ops_width ns z.ops ≤ 4096

-- an expression that is right
pub record Proper (ns : List ℕ) (e : Expr) : Type 0 where
  pub named : named_expr ns e ≡ true
  pub sized : sized_expr ns e ≡ true
