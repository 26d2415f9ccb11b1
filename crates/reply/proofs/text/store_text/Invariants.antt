use Rattle.std.proofs.Common.{◌-◌, string_bytes}
use Rattle.reply.proofs.Showing.{Listed}
use Rattle.reply.proofs.text.store_text.Given as goal

abbrev pub invariant-loop : goal.invariant-loop
invariant-loop l = Listed l.fn.reader (l.n - l.counter) (string_bytes l.text) l.reader
