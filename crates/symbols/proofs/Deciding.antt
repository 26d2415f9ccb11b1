-- What the condition of a case of a machine's state comes to. Assumes nothing.
use Rattle.std.proofs.Common.{◌≡◌, ℕ, ◌<◌, true, List, [], map, length, vec_items, sym, ap, ◌∙◌, ap₂}
use Rattle.model.specs.Parser as M
use Rattle.model.specs.Refusal.{sized_patterns}
use Rattle.model.proofs.Every.{every_at}
use Rattle.syntax.specs.View.{expr_of, pattern_of, state_of, case_of}
use Rattle.syntax.specs.declared.ast.Expr.{Expr}
use Rattle.syntax.specs.declared.ast.Pattern.{Pattern}
use Rattle.syntax.specs.declared.ast.State.{State}
use Rattle.syntax.specs.declared.ast.Case.{Case}
use Rattle.machine.specs.Sound.{Sound}
use Rattle.machine.specs.View.{parser_in, sizes_in, state_count, state_in}
use Rattle.machine.specs.declared.machine.Machine.{Machine}
use Rattle.machine.proofs.Facts.{sound_at}
use Rattle.symbols.specs.Choice.{case_at}
use Rattle.symbols.specs.View.{in_row, symbols_in, header_bits}
use Rattle.symbols.specs.Symbol.{store_sense, condition_of, holds, are_pairs, Below}
use Rattle.symbols.proofs.Bounds.{pairs_condition, row_stays}
use Rattle.symbols.proofs.Conditions.{condition_matches}
use Rattle.machine.proofs.Rows.{sizes_kept}

-- keys and patterns that were read are those of the model
pub keys_are : (z : State) {y : M.State} {keys : List Expr} → keys ≡ vec_items z.keys → state_of z ≡ y → map expr_of keys ≡ y.keys
keys_are z read is = ap (map expr_of) read ∙ ap (λ (y : M.State). y.keys) is

pub patterns_are : (c : Case) {d : M.Case} {ps : List Pattern} → ps ≡ vec_items c.patterns → case_of c ≡ d → map pattern_of ps ≡ d.patterns
patterns_are c read is = ap (map pattern_of) read ∙ ap (λ (d : M.Case). d.patterns) is

module _ (m : Machine) (q case : ℕ) (known : q < state_count m) (there : case < length (state_in m q).cases) where
  pub sound_in : Sound (sizes_in m) (state_count m) (state_in m q)
  sound_in = sound_at (parser_in m) m.checked.right q M.no_state known

  pub case_sized : sized_patterns (sizes_in m) (state_in m q).keys (case_at (state_in m q) case).patterns ≡ true
  case_sized =
      every_at (λ (c : M.Case). sized_patterns (sizes_in m) (state_in m q).keys c.patterns) (state_in m q).cases sound_in.sized_cases case (record { patterns = []; target = (state_in m q).otherwise }) there

  module _ (heads : List ℕ) {es : List M.Expr} {ps : List M.Pattern} (keys : es ≡ (state_in m q).keys) (patterns : ps ≡ (case_at (state_in m q) case).patterns) where
    same : condition_of (symbols_in m heads) (state_in m q).keys (case_at (state_in m q) case).patterns ≡ condition_of (symbols_in m heads) es ps
    same = sym (ap₂ (λ x y. condition_of (symbols_in m heads) x y) keys patterns)

    pub case_told : (ν : ℕ → ℕ) → holds ν (condition_of (symbols_in m heads) es ps) ≡ M.matches (store_sense ν (symbols_in m heads)) (state_in m q).keys (case_at (state_in m q) case).patterns
    case_told ν =
        sym (ap (holds ν) same)
        ∙ condition_matches ν (sizes_in m) (symbols_in m heads) (sizes_kept (in_row heads) 0 (sizes_in m)) (state_in m q).keys (case_at (state_in m q) case).patterns sound_in.named_keys sound_in.sized_keys case_sized

    pub case_pairs : (top : ℕ) → Below top (in_row heads) (header_bits m) → are_pairs top (condition_of (symbols_in m heads) es ps) ≡ true
    case_pairs top below =
        sym (ap (are_pairs top) same)
        ∙ pairs_condition top (sizes_in m) (symbols_in m heads) (state_in m q).keys (case_at (state_in m q) case).patterns sound_in.sized_keys case_sized (row_stays top (in_row heads) (sizes_in m) below)
