use Rattle.std.proofs.Common.{◌+◌, ◌/◌, ◌≤◌}
use Rattle.reach.specs.Tracing.{Spelling}
use Rattle.reach.proofs.way.spell.Given as goal

-- a turn goes on to the next word, or writes a bit
abbrev pub invariant-loop-next : goal.invariant-loop-next
invariant-loop-next l =
    Spelling l.tables l.message l.root l.last l.next l.len
    × (l.work.left ≤ l.initial.work.left)
    × (l.initial.work.left ≤ l.work.left + (l.len + l.next / 64))

abbrev pub decreases-loop-next : goal.decreases-loop-next
decreases-loop-next l = l.work.left
