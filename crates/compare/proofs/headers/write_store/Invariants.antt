use Rattle.compare.specs.Pieces.{Laid}
use Rattle.compare.proofs.headers.write_store.Given as goal

abbrev pub invariant-loop-i : goal.invariant-loop-i
invariant-loop-i l = Laid l.sizes l.initial.room l.room l.at l.contents l.i l.rest
