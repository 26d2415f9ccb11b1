use Rattle.std.proofs.Common.{◌≡◌, ◌+◌}
use Rattle.reach.specs.Phases.{Going}
use Rattle.reach.proofs.explore.seed.Given as goal

-- while starts come, every entry is one of them
abbrev pub invariant-loop-i : goal.invariant-loop-i
invariant-loop-i g l =
    let m = g.S.System.model l.system in
    Going m l.tables m.count l.i 0 × (l.work.left + l.i ≡ l.initial.work.left)
