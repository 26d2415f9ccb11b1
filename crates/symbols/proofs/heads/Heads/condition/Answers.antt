use Rattle.std.proofs.Common.{◌≡◌, ℕ, ◌<◌, true, List, length, vec_items, ap, ◌∙◌, ap₂, arith}
use Rattle.model.specs.Parser as M
use Rattle.model.specs.Refusal.{every, named_expr, sized_expr, sized_patterns}
use Rattle.machine.specs.View.{sizes_in, state_in}
use Rattle.machine.specs.declared.machine.Machine.{Machine}
use Rattle.symbols.specs.Choice.{case_at}
use Rattle.symbols.specs.View.{in_row, symbols_in, header_bits}
use Rattle.symbols.specs.Symbol.{store_sense, holds, are_pairs, Below}
use Rattle.symbols.proofs.Conditions.{behind_when}
use Rattle.symbols.proofs.Deciding.{keys_are, patterns_are, sound_in, case_sized, case_told, case_pairs}
use Rattle.symbols.proofs.Reading.{indexed, state_is, case_count, case_is}
use Rattle.symbols.proofs.heads.Heads.condition.Goals as goal

pub hold-requires : goal.hold-requires
hold-requires c =
    let m : Machine = c.args.self.now.machine.now in
    let ns : List ℕ = sizes_in m in
    let q : ℕ = c.args.q in
    let l = c.requires.known in
    let inside : c.args.case < length (vec_items c.index-state.result.now.cases) = omega (arith, c.requires.there, case_count m q l c.index-state.ensures) in
    let keys = keys_are c.index-state.result.now c.deref.ensures.value (state_is m q l c.index-state.ensures) in
    let patterns = patterns_are c.index.result.now c.deref-2.ensures.value (case_is m q l c.index-state.ensures inside c.index.ensures) in
    record {
      named = ap (every (named_expr ns)) keys ∙ (sound_in m q c.args.case l c.requires.there).named_keys;
      sized = ap (every (sized_expr ns)) keys ∙ (sound_in m q c.args.case l c.requires.there).sized_keys;
      wide = ap₂ (sized_patterns ns) keys patterns ∙ case_sized m q c.args.case l c.requires.there;
      within = omega (arith, c.requires.within);
    }

pub returns : goal.returns
returns c =
    let m : Machine = c.args.self.now.machine.now in
    let q : ℕ = c.args.q in
    let l = c.requires.known in
    let hs : List ℕ = c.args.self.now.symbols.now in
    let inside : c.args.case < length (vec_items c.index-state.result.now.cases) = omega (arith, c.requires.there, case_count m q l c.index-state.ensures) in
    let keys = keys_are c.index-state.result.now c.deref.ensures.value (state_is m q l c.index-state.ensures) in
    let patterns = patterns_are c.index.result.now c.deref-2.ensures.value (case_is m q l c.index-state.ensures inside c.index.ensures) in
    let told_of : List ℕ → Type 0 = λ ys. (ν : ℕ → ℕ) → holds ν ys ≡ M.matches (store_sense ν (symbols_in m hs)) (state_in m q).keys (case_at (state_in m q) c.args.case).patterns in
    let pairs_of : List ℕ → Type 0 = λ ys. (top : ℕ) → Below top (in_row hs) (header_bits m) → are_pairs top ys ≡ true in
    record {
      end = c.hold.ensures.end;
      below = c.hold.ensures.below;
      told = behind_when told_of c.args.out.now c.hold.new.out _ c.args.at c.requires.within c.hold.result c.hold.ensures.end c.hold.ensures.wrote (case_told m q c.args.case l c.requires.there hs keys patterns);
      pairs = behind_when pairs_of c.args.out.now c.hold.new.out _ c.args.at c.requires.within c.hold.result c.hold.ensures.end c.hold.ensures.wrote (case_pairs m q c.args.case l c.requires.there hs keys patterns);
    }
