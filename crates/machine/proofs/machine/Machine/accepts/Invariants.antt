use Rattle.std.proofs.Common.{◌≡◌, true, length}
use Rattle.model.specs.Parser.{accepts}
use Rattle.model.specs.Refusal.{are_bits}
use Rattle.syntax.specs.View.{target_of}
use Rattle.machine.specs.View.{contents, parser_in}
use Rattle.machine.proofs.Accepting.{Running}
use Rattle.machine.proofs.machine.Machine.accepts.Given as goal

abbrev pub invariant-loop-target : goal.invariant-loop-target
invariant-loop-target l =
    record {
      running : Running (parser_in l.self) (accepts (parser_in l.self) (contents l.self l.initial.store) l.start l.input) (contents l.self l.store) (target_of l.target) l.rest;
      bits : are_bits l.rest ≡ true;
    }

abbrev pub decreases-loop-target : goal.decreases-loop-target
decreases-loop-target l = length l.rest
