use Rattle.std.proofs.Common.{◌+◌, ◌/◌, ◌%◌, ◌≤◌, not, sym, ap, ◌∙◌, subst, arith}
use Rattle.reach.specs.Phases.{Going}
use Rattle.reach.proofs.Explorations.{safe, explore_known, explore_fresh, explore_bad}
use Rattle.reach.proofs.explore.explore.Goals as goal
use Rattle.reach.proofs.explore.explore.Goals.{then-not-is_seen+else-enter, else-not-is_seen}

pub returns-then-enter : goal.returns-then-enter
returns-then-enter g c =
    let m = g.S.System.model c.args.system.now in
    let t = c.loop-done.tables in
    let done = c.loop-done.done in
    let q = c.after-q.ensures in
    let h = c.loop-done.invariant in
    let q_is = q.value ∙ ap (λ x. m.next (x / 2) (done % 2)) c.entry.ensures in (
      explore_bad m t c.args.tables.now.tail done c.after-q.result h.0 q_is c.enter.new.tables (not c.is_odd-odd.result) (ap not c.is_odd-odd.ensures) c.if-enter.ensures.pushed (sym c.if-not-is_seen.ensures) q.below q.good c.loop-done-test.true h.2 (sym c.if-enter.ensures.bad),
      (omega (arith, c.in_ok-spend.ensures.spent, h.3), omega (arith, c.in_ok-spend.ensures.spent, h.3, h.0.held.spare)),
    )

pub loop-done-preserved : goal.loop-done-preserved
loop-done-preserved g c =
    let m = g.S.System.model c.args.system.now in
    let t = c.loop-done.tables in
    let done = c.loop-done.done in
    let q = c.after-q.ensures in
    let h = c.loop-done.invariant in
    let q_is = q.value ∙ ap (λ x. m.next (x / 2) (done % 2)) c.entry.ensures in
    let going : Going (g.S.System.model c.args.system.now) c.if-not-is_seen.tables c.args.tables.now.tail (g.S.System.model c.args.system.now).starts (c.loop-done.done + 1) =
    elim c.if-not-is_seen.branch [
      | then-not-is_seen+else-enter w ↦
          subst (λ t. Going m t c.args.tables.now.tail m.starts (done + 1)) (sym w.tables-is)
          (explore_fresh m t c.args.tables.now.tail done c.after-q.result h.0 q_is w.enter.new.tables (not w.is_odd-odd.result) (ap not w.is_odd-odd.ensures) w.if-enter.ensures.pushed (sym w.if-not-is_seen.ensures) q.below q.good c.loop-done-test.true h.2 (sym w.if-enter.ensures.bad))
      | else-not-is_seen w ↦
          subst (λ t. Going m t c.args.tables.now.tail m.starts (done + 1)) (sym w.tables-is)
          (explore_known m t c.args.tables.now.tail done c.after-q.result h.0 q_is (sym w.if-not-is_seen.ensures))
    ] in
    let no_fewer : c.loop-done.tables.tail ≤ c.if-not-is_seen.tables.tail =
    elim c.if-not-is_seen.branch [
      | then-not-is_seen+else-enter w ↦ omega (arith, ap (λ t. t.tail) w.tables-is, w.if-enter.ensures.pushed.tail)
      | else-not-is_seen w ↦ omega (arith, ap (λ t. t.tail) w.tables-is)
    ] in
    (going, omega (arith, c.loop-done-test.true), omega (arith, h.2), omega (arith, c.in_ok-spend.ensures.spent, h.3))

pub returns : goal.returns
returns g c =
    let m = g.S.System.model c.args.system.now in
    let h = c.loop-done.invariant in
    (safe m c.loop-done.tables c.args.tables.now.tail c.loop-done.done h.0 c.loop-done-test.false, (omega (arith, h.3), omega (arith, h.3, h.1, h.0.held.spare)))
