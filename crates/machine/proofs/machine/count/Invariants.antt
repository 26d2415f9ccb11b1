use Rattle.std.proofs.Common.{vec_items}
use Rattle.model.specs.Parser.{width}
use Rattle.syntax.specs.View.{state_of, parser_of}
use Rattle.machine.proofs.Ready.{Made}
use Rattle.machine.proofs.machine.count.Given as goal

abbrev pub invariant-loop-state : goal.invariant-loop-state
invariant-loop-state l = Made (λ z. width (parser_of l.checked.parser) (state_of z)) (vec_items l.widths) l.state-items l.state-index
