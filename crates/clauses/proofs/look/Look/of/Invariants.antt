use Rattle.std.proofs.Common.{take}
use Rattle.clauses.specs.Known.{Looked}
use Rattle.clauses.proofs.look.Look.of.Given as goal

abbrev pub invariant-loop-l : goal.invariant-loop-l
invariant-loop-l l = Looked l.known (take l.l-index l.clause) l.says
