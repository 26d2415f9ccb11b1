-- A state of a machine that was read, and its cases. Assumes nothing.
use Rattle.std.proofs.Common.{◌≡◌, ℕ, ◌<◌, ◌≤◌, [], map, length, get_or, vec_items, vec_len, sym, refl, ap, ◌∙◌, arith}
use Rattle.std.proofs.lemmas.List.{length-map, get_or-map, get_or_past}
use Rattle.model.specs.Parser as M
use Rattle.syntax.specs.View.{state_of, case_of, target_of}
use Rattle.syntax.specs.declared.ast.State.{State}
use Rattle.syntax.specs.declared.ast.Case.{Case}
use Rattle.machine.specs.Sound.{Sound}
use Rattle.machine.specs.View.{sizes_in, state_count, state_in}
use Rattle.machine.specs.declared.machine.Machine.{Machine}
use Rattle.machine.proofs.Facts.{state_read, sound_read}
use Rattle.symbols.specs.Choice.{case_at, outcome_target}

module _ (m : Machine) (q : ℕ) (l : q < state_count m) where
  inside : q < length (vec_items m.checked.parser.states)
  inside = omega (arith, length-map (vec_items m.checked.parser.states) state_of)

  pub indexed : q < vec_len m.checked.parser.states
  indexed = omega (arith, inside, m.checked.parser.states.ok.0)

  module _ {z : State} (read : z ≡ get_or (vec_items m.checked.parser.states) q z) where
    pub state_is : state_of z ≡ state_in m q
    state_is = state_read (vec_items m.checked.parser.states) inside read

    pub sound : Sound (sizes_in m) (state_count m) (state_of z)
    sound = sound_read m.checked refl inside read

    pub case_count : length (vec_items z.cases) ≡ length (state_in m q).cases
    case_count = sym (length-map (vec_items z.cases) case_of) ∙ ap (λ y. length y.cases) state_is

    pub case_is : {o : ℕ} {c : Case} → o < length (vec_items z.cases) → c ≡ get_or (vec_items z.cases) o c → case_of c ≡ case_at (state_in m q) o
    case_is {o} {c} h at =
        ap case_of at ∙ sym (get_or-map case_of (vec_items z.cases) o c (record { patterns = []; target = target_of z.otherwise }) h) ∙ ap (λ y. case_at y o) state_is

    pub target_is : {o : ℕ} {c : Case} → o < length (vec_items z.cases) → c ≡ get_or (vec_items z.cases) o c → target_of c.target ≡ outcome_target (state_in m q) o
    target_is h at = ap (λ (x : M.Case). x.target) (case_is h at)

    pub otherwise_is : (o : ℕ) → length (vec_items z.cases) ≤ o → target_of z.otherwise ≡ outcome_target (state_in m q) o
    otherwise_is o h =
        sym (ap (λ (x : M.Case). x.target) (get_or_past (map case_of (vec_items z.cases)) o (record { patterns = []; target = target_of z.otherwise }) (omega (arith, length-map (vec_items z.cases) case_of))))
        ∙ ap (λ y. outcome_target y o) state_is
