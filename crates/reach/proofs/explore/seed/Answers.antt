use Rattle.std.proofs.Common.{◌≡◌, ◌+◌, ◌<◌, sym, subst, arith}
use Rattle.reach.specs.Phases.{Going}
use Rattle.reach.proofs.Turns.{going_none}
use Rattle.reach.proofs.Explorations.{seed_known, seed_fresh, seed_bad, seed_all}
use Rattle.reach.proofs.explore.seed.Goals as goal
use Rattle.reach.proofs.explore.seed.Goals.{else-not-is_seen-via-then-not-is_seen+else-enter, else-not-is_seen-via-else-not-is_seen}

pub loop-i-init : goal.loop-i-init
loop-i-init g c = (going_none (g.S.System.model c.args.system.now) c.args.tables.now c.requires, omega arith)

pub returns-then-enter : goal.returns-then-enter
returns-then-enter g c =
    let m = g.S.System.model c.args.system.now in
    let q = c.start-q.ensures in
    let more : c.loop-i.i < (g.S.System.model c.args.system.now).starts = omega (arith, c.starts-i-end.ensures.value) in (
      seed_bad m c.loop-i.tables c.loop-i.i c.start-q.result c.loop-i.invariant.0 q.value c.enter.new.tables c.if-enter.ensures.pushed (sym c.if-not-is_seen.ensures) q.below q.good more (sym c.if-enter.ensures.bad),
      (omega (arith, c.in_ok-spend.ensures.spent, c.loop-i.invariant.1), omega (arith, c.in_ok-spend.ensures.spent, c.loop-i.invariant.1, c.starts-i-end.ensures.few)),
    )

pub loop-i-preserved : goal.loop-i-preserved
loop-i-preserved g c =
    let m = g.S.System.model c.args.system.now in
    let q = c.start-q.ensures in
    let more : c.loop-i.i < (g.S.System.model c.args.system.now).starts = omega (arith, c.starts-i-end.ensures.value) in
    let going : Going (g.S.System.model c.args.system.now) c.else-not-is_seen.tables (g.S.System.model c.args.system.now).count (c.loop-i.i + 1) 0 =
    elim c.else-not-is_seen.branch [
      | else-not-is_seen-via-then-not-is_seen+else-enter w ↦
          subst (λ t. Going m t m.count (c.loop-i.i + 1) 0) (sym w.tables-is)
          (seed_fresh m c.loop-i.tables c.loop-i.i c.start-q.result c.loop-i.invariant.0 q.value w.enter.new.tables w.if-enter.ensures.pushed (sym w.if-not-is_seen.ensures) q.below q.good more (sym w.if-enter.ensures.bad))
      | else-not-is_seen-via-else-not-is_seen w ↦
          subst (λ t. Going m t m.count (c.loop-i.i + 1) 0) (sym w.tables-is)
          (seed_known m c.loop-i.tables c.loop-i.i c.start-q.result c.loop-i.invariant.0 q.value (sym w.if-not-is_seen.ensures))
    ] in
    (going, omega (arith, c.in_ok-spend.ensures.spent, c.loop-i.invariant.1))

pub returns : goal.returns
returns g c =
    let m = g.S.System.model c.args.system.now in
    let all : c.loop-i.i ≡ (g.S.System.model c.args.system.now).starts = omega (arith, c.starts-i-end.ensures.value) in
    (seed_all m c.loop-i.tables c.loop-i.i c.loop-i.invariant.0 all, (omega (arith, c.loop-i.invariant.1), omega (arith, c.loop-i.invariant.1, c.starts-i-end.ensures.few)))
