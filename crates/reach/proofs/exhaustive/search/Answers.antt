use Rattle.std.proofs.Common.{◌/◌, ◌≤◌, ap, arith}
use Rattle.reach.proofs.Ends.{seeded_within, explored_within, leads_along}
use Rattle.reach.proofs.exhaustive.search.Goals as goal
use Rattle.reach.proofs.exhaustive.search.Goals.{then-is_none+in_ok-bad-2, else-is_none}

pub returns-clause-answer : goal.returns-clause-answer
returns-clause-answer g c =
    let traced = c.in_ok-root.ensures in
    let spelt = c.in_ok-spell.ensures in (
      leads_along (g.S.System.model c.args.system.now) c.trace.new.tables c.trace.new.work.left c.spell.new.work.left c.in_ok-root.root c.in-Some.last (c.entry.result / 2) c.spell.new.message traced.0 spelt (ap (λ x. x / 2) c.entry.ensures),
      omega (arith, spelt.few, traced.0.inside, traced.1),
    )

pub returns-clause-spent : goal.returns-clause-spent
returns-clause-spent g c =
    let m = g.S.System.model c.args.system.now in
    let seeded = seeded_within m _ _ _ _ c.in_ok-bad.ensures in
    let before : c.if-is_none.work.left ≤ c.args.work.now.left =
    elim c.if-is_none.branch [
      | then-is_none+in_ok-bad-2 w ↦
          let explored = explored_within m _ _ _ _ _ w.in_ok-bad-2.ensures in
          omega (arith, ap (λ w. w.left) w.work-is, explored.0, seeded.0, c.in_ok-spend.ensures.spent)
      | else-is_none w ↦ omega (arith, ap (λ w. w.left) w.work-is, seeded.0, c.in_ok-spend.ensures.spent)
    ] in
    omega (arith, before, c.in_ok-root.ensures.2.0, c.in_ok-spell.ensures.within.0)
