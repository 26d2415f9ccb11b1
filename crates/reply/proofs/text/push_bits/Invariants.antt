use Rattle.std.proofs.Common.{◌≡◌, ◌-◌, ◌++◌, string_bytes}
use Rattle.reply.specs.Printed.{digits}
use Rattle.rows.specs.Row.{bits_in}
use Rattle.reply.proofs.text.push_bits.Given as goal

abbrev pub invariant-loop-k : goal.invariant-loop-k
invariant-loop-k l = string_bytes l.text ++ digits (bits_in l.row.words.now l.k (l.row.len - l.k)) ≡ string_bytes l.initial.text ++ digits (bits_in l.row.words.now 0 l.row.len)
