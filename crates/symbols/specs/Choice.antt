-- Outcomes of a select: outcome o is case o, or `otherwise` where o is how many cases there are. Assumes nothing: each statement is a type, whose proof is owed where a contract names it.
use Rattle.std.specs.Prelude.{◌≡◌, ℕ, ◌<◌, ◌≤◌, true, false, [], length, slice_index_or}
use Rattle.model.specs.Parser.{Case, State, Store, Target, matches, select}

-- case o, or one with no patterns that leads to `otherwise`
abbrev pub case_at : State → ℕ → Case
case_at z o = slice_index_or z.cases o (record { patterns = []; target = z.otherwise })

abbrev pub outcome_target : State → ℕ → Target
outcome_target z o = (case_at z o).target

-- outcome o is the one that is taken
pub record Takes (s : Store) (z : State) (o : ℕ) : Type 0 where
  pub within : o ≤ length z.cases
  pub earlier : (j : ℕ) → j < o → matches s z.keys (case_at z j).patterns ≡ false
  pub taken : o < length z.cases → matches s z.keys (case_at z o).patterns ≡ true

-- some outcome is taken always, and where a select leads is its target
pub record OutcomeIsTaken : Type 0 where
  pub some : (s : Store) (z : State) → (o : ℕ) × Takes s z o
  pub leads : (s : Store) (z : State) (o : ℕ) → Takes s z o → select s z.keys z.cases z.otherwise ≡ outcome_target z o
