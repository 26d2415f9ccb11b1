use Rattle.std.proofs.Common.{ℕ, replicate, refl, ◌∙◌}
use Rattle.machine.proofs.Words.{row_none, row_rest}
use Rattle.machine.proofs.store.Store.from_word.Goals as goal

pub returns : goal.returns
returns c = record { first = refl; rest = λ k l. row_rest (replicate {A = ℕ} 64 0) c.args.word k l ∙ row_none 64 k }
