use Rattle.std.proofs.Common.{◌≡◌, ℕ, ◌-◌, List, ◌++◌, vec_items}
use Rattle.rows.specs.Row.{bits_in}
use Rattle.reply.proofs.bytes.put_row.Given as goal

abbrev pub invariant-loop-k : goal.invariant-loop-k
invariant-loop-k l = (rest : List ℕ) → vec_items l.out ++ (bits_in l.row.words.now l.k (l.row.len - l.k) ++ rest) ≡ vec_items l.initial.out ++ (bits_in l.row.words.now 0 l.row.len ++ rest)
