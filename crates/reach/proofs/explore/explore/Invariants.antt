use Rattle.std.proofs.Common.{◌≡◌, ◌+◌, ◌*◌, ◌≤◌}
use Rattle.reach.specs.Phases.{Going}
use Rattle.reach.proofs.explore.explore.Given as goal

abbrev pub invariant-loop-done : goal.invariant-loop-done
invariant-loop-done g l =
    let m = g.S.System.model l.system in
    Going m l.tables l.initial.tables.tail m.starts l.done
    × (l.done ≤ 2 * l.tables.tail)
    × (l.initial.tables.tail ≤ l.tables.tail)
    × (l.work.left + l.done ≡ l.initial.work.left)

abbrev pub decreases-loop-done : goal.decreases-loop-done
decreases-loop-done g l = l.work.left
