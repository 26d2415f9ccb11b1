use Rattle.std.proofs.Common.{map, vec_items}
use Rattle.model.specs.Parser.{matches}
use Rattle.syntax.specs.View.{pattern_of, state_of}
use Rattle.machine.specs.View.{contents, sizes_in}
use Rattle.machine.proofs.Cases.{Ahead}
use Rattle.machine.proofs.Matching.{Left}
use Rattle.machine.proofs.machine.Machine.select.Given as goal

abbrev pub invariant-cases : goal.invariant-cases
invariant-cases l = Ahead (contents l.self l.store) (state_of l.state).keys (state_of l.state).otherwise l.case-items l.case-index

abbrev pub invariant-loop-key : goal.invariant-loop-key
invariant-loop-key l =
    Left (sizes_in l.self) (contents l.self l.store) (matches (contents l.self l.store) (state_of l.state).keys (map pattern_of (vec_items l.case.patterns))) l.key-iterator.a.rest.now l.key-iterator.b.rest.now
