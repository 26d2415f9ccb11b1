use Rattle.std.proofs.Common.{◌-◌, ◌<◌, ◌≤◌, ◌∙◌, ⊎_elim, arith}
use Rattle.std.proofs.lemmas.Bool.{cases_lt}
use Rattle.reach.specs.Tables.{seen, odd_in, path, entry}
use Rattle.reach.proofs.Traces.{parent_below, tracing_past, trace_first, trace_step, trace_all}
use Rattle.reach.proofs.way.trace.Goals as goal

pub loop-j-init : goal.loop-j-init
loop-j-init g c =
    (c.mark.ensures.size ∙ c.requires.size, trace_first (g.S.System.model c.args.system.now) c.args.tables.now c.mark.new.self c.args.roots c.args.last c.requires c.mark.ensures, omega arith)

pub is_parent-requires-clause-below : goal.is_parent-requires-clause-below
is_parent-requires-clause-below g c =
    let h = c.loop-j.invariant.1 in
    h.held.inside (c.loop-j.j - 1) (omega (arith, h.order, h.under))

pub loop-j-preserved-then-is_parent : goal.loop-j-preserved-then-is_parent
loop-j-preserved-then-is_parent g c =
    let h = c.loop-j.invariant in (
      c.mark-then-is_parent.ensures.size ∙ h.0,
      trace_step (g.S.System.model c.args.system.now) c.loop-j.tables c.mark-then-is_parent.new.self c.args.roots c.args.last c.loop-j.k c.loop-j.j h.1 c.loop-j-test.true c.if-is_parent.ensures c.mark-then-is_parent.ensures,
      omega (arith, c.in_ok-spend.ensures.spent, c.loop-j-test.true, h.2),
    )

pub loop-j-preserved : goal.loop-j-preserved
loop-j-preserved g c =
    let h = c.loop-j.invariant in
    let t = c.loop-j.tables in (
      h.0,
      tracing_past (g.S.System.model c.args.system.now) (seen t) (odd_in t) (entry t) c.args.roots c.args.last (path t) c.loop-j.k c.loop-j.j h.1 c.loop-j-test.true c.if-is_parent.ensures,
      omega (arith, c.in_ok-spend.ensures.spent, c.loop-j-test.true, h.2),
    )

-- no entry is left below, so the last one found is a start
pub returns-after-loop-j : goal.returns-after-loop-j
returns-after-loop-j g c =
    let m = g.S.System.model c.args.system.now in
    let h = c.loop-j.invariant in
    let t = c.loop-j.tables in
    let root : c.loop-j.k < c.args.roots =
    ⊎_elim (λ (lt : c.loop-j.k < c.args.roots). lt) (λ (ge : c.args.roots ≤ c.loop-j.k). absurd (omega (arith, c.loop-j-test.false, parent_below m (seen t) (odd_in t) (entry t) c.args.roots c.args.last (path t) c.loop-j.k c.loop-j.j h.1 ge)))
    (cases_lt c.loop-j.k c.args.roots) in
    (trace_all m t c.args.roots c.args.last c.loop-j.k c.loop-j.j h.1 (omega (arith, h.0, h.1.held.spare)) root, h.0, (omega (arith, h.1.order, h.1.under, h.2), omega (arith, h.1.held.spare, h.2)))

pub returns-then-k-roots : goal.returns-then-k-roots
returns-then-k-roots g c =
    let h = c.loop-j.invariant in (
      trace_all (g.S.System.model c.args.system.now) c.loop-j.tables c.args.roots c.args.last c.loop-j.k c.loop-j.j h.1 (omega (arith, h.0, h.1.held.spare)) c.if-k-roots.true,
      h.0,
      (omega (arith, h.1.order, h.1.under, h.2), omega (arith, h.1.held.spare, h.2)),
    )
