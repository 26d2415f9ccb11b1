use Rattle.std.proofs.Common.{◌≡◌, ◌+◌}
use Rattle.reach.proofs.Traces.{TracingIn}
use Rattle.reach.proofs.way.trace.Given as goal

abbrev pub invariant-loop-j : goal.invariant-loop-j
invariant-loop-j g l =
    let m = g.S.System.model l.system in
    (l.tables.count ≡ m.count)
    × TracingIn m l.tables l.roots l.last l.k l.j
    × (l.work.left + l.last ≡ l.initial.work.left + l.j)
