use Rattle.std.proofs.Common.{Ok}
use Rattle.clauses.specs.Steps.{Grown}
use Rattle.clauses.proofs.lemmas.add_lemmas.Given as goal

abbrev pub invariant-loop : goal.invariant-loop
invariant-loop l = Grown l.most l.fn.lists l.fn.starts l.fn.known l.fn.work.left l.lists l.starts l.known l.work.left (Ok tt)
