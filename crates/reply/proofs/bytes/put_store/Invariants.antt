use Rattle.std.proofs.Common.{vec_items}
use Rattle.reply.proofs.Appending.{Stored}
use Rattle.reply.proofs.bytes.put_store.Given as goal

abbrev pub invariant-loop : goal.invariant-loop
invariant-loop l = Stored (vec_items l.initial.out) l.initial.reader l.n l.counter (vec_items l.out) l.reader
