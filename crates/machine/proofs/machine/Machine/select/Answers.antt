use Rattle.std.proofs.Common.{◌≡◌, ℕ, List, map, length, vec_items, sym, refl, ap, ◌∙◌, subst, ⊎_elim}
use Rattle.model.specs.Parser as M
use Rattle.model.specs.Refusal.{every, sized_patterns}
use Rattle.model.proofs.Every.{every_read}
use Rattle.syntax.specs.View.{expr_of, pattern_of, case_of, target_of}
use Rattle.machine.specs.View.{contents, sizes_in}
use Rattle.machine.proofs.Cases.{taken, passed, none_left}
use Rattle.machine.proofs.Matching.{Left, as_many, proper, as_wide, passes, passes_any, fails, all_passed}
use Rattle.machine.proofs.machine.Machine.select.Goals as goal
use Rattle.machine.proofs.machine.Machine.select.Goals.{in_default-via-in-Any-1, in_default-via-in-Exactly+else-not-equals}

pub loop-key-init : goal.loop-key-init
loop-key-init c =
    let ns : List ℕ = sizes_in c.args.self.now in
    let s : M.Store = contents c.args.self.now c.args.store.now in
    let keys = vec_items c.args.state.now.keys in
    let pats = vec_items c.case-item.result.patterns in
    let wide = every_read (λ k. sized_patterns ns (map expr_of keys) k.patterns) case_of c.deref-case-items.result.now
    (ap (λ cs. every (λ k. sized_patterns ns (map expr_of keys) k.patterns) (map case_of cs)) c.deref-case-items.ensures.value ∙ c.requires.sized_cases) c.cases.case-index c.cases-test.true c.case-item.is in
    let first = ap (λ i. i.a.rest.now) c.into_iter-key-iterator.ensures.into_iter_gives ∙ ap (λ i. i.rest.now) c.zip-key-items.ensures.first ∙ c.iter.ensures.rest ∙ c.deref.ensures.value in
    let second = ap (λ i. i.b.rest.now) c.into_iter-key-iterator.ensures.into_iter_gives ∙ c.zip-key-items.ensures.second.0 in
    let matches = M.matches s (map expr_of keys) (map pattern_of pats) in
    subst (λ xs. Left ns s matches xs c.into_iter-key-iterator.result.b.rest.now) (sym first)
    (subst (Left ns s matches keys) (sym second) (record { same = refl; named = c.requires.named_keys; sized = c.requires.sized_keys; wide = wide }))

pub equals-requires : goal.equals-requires
equals-requires c =
    let steps = c.in-Some.ensures.steps in
    record {
      proper = proper _ _ c.loop-key.invariant steps.0 steps.1;
      wide = ap length c.deref-in-loop-key.ensures.value ∙ as_wide _ _ c.loop-key.invariant steps.0 steps.1 c.in-Exactly.is;
    }

pub cases-preserved : goal.cases-preserved
cases-preserved c =
    let s : M.Store = contents c.args.self.now c.args.store.now in
    let keys = vec_items c.args.state.now.keys in
    let steps = c.in-Some.ensures.steps in
    let no' = fails _ _ c.loop-key.invariant steps.0 steps.1 c.in-Exactly.is
    (sym (ap (M.same_bits (M.value s (expr_of c.in-Some.key.now))) c.deref-in-loop-key.ensures.value) ∙ sym c.equals.ensures ∙ c.if-not-equals.true) in
    passed s (map expr_of keys) (target_of c.args.state.now.otherwise) c.deref-case-items.result.now c.cases.invariant c.cases-test.true c.case-item.is (sym no')

pub loop-key-preserved : goal.loop-key-preserved
loop-key-preserved c =
    let s : M.Store = contents c.args.self.now c.args.store.now in
    let steps = c.in-Some.ensures.steps in
    elim c.in_default.branch [
      | in_default-via-in-Any-1 w ↦ passes_any _ _ c.loop-key.invariant steps.0 steps.1 (search)
      | in_default-via-in-Exactly+else-not-equals w ↦
          passes _ _ c.loop-key.invariant steps.0 steps.1 w.in-Exactly.is
          (sym (ap (M.same_bits (M.value s (expr_of c.in-Some.key.now))) w.deref-in-loop-key.ensures.value) ∙ sym w.equals.ensures ∙ w.if-not-equals.false)
    ]

pub returns-in-cases : goal.returns-in-cases
returns-in-cases c =
    let s : M.Store = contents c.args.self.now c.args.store.now in
    let keys = map expr_of (vec_items c.args.state.now.keys) in
    let t = target_of c.args.state.now.otherwise in
    let many = as_many (sizes_in c.args.self.now) c.loop-key.key-iterator.a.rest.now c.loop-key.key-iterator.b.rest.now c.loop-key.invariant.wide in
    let none : length c.loop-key.key-iterator.b.rest.now ≡ 0 = ⊎_elim (λ p. sym many ∙ p.1.0) (λ p. p.1.0) c.in-None.ensures.steps in
    taken s keys t c.deref-case-items.result.now c.cases.invariant c.cases-test.true c.case-item.is (sym (all_passed _ _ c.loop-key.invariant none))
    ∙ ap (λ cs. M.select s keys (map case_of cs) t) c.deref-case-items.ensures.value

pub returns : goal.returns
returns c =
    let s : M.Store = contents c.args.self.now c.args.store.now in
    let keys = map expr_of (vec_items c.args.state.now.keys) in
    let t = target_of c.args.state.now.otherwise in
    none_left s keys t c.deref-case-items.result.now c.cases.invariant c.cases-test.false
    ∙ ap (λ cs. M.select s keys (map case_of cs) t) c.deref-case-items.ensures.value
