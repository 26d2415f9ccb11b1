use Rattle.std.proofs.Common.{◌++◌, map, take}
use Rattle.syntax.specs.View.{expr_of, pattern_of}
use Rattle.machine.specs.View.{sizes_in}
use Rattle.symbols.specs.Symbol.{condition_of}
use Rattle.symbols.specs.View.{symbols_in}
use Rattle.symbols.proofs.Conditions.{Left}
use Rattle.symbols.proofs.heads.Heads.hold.Given as goal

abbrev pub invariant-loop-key : goal.invariant-loop-key
invariant-loop-key l =
    Left (sizes_in l.self.machine.now) (symbols_in l.self.machine.now l.self.symbols.now) (take l.at l.initial.out) l.at l.out
    (take l.at l.initial.out ++ condition_of (symbols_in l.self.machine.now l.self.symbols.now) (map expr_of l.keys) (map pattern_of l.patterns)) l.next
    l.key-iterator.a.rest.now l.key-iterator.b.rest.now
