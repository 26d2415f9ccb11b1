use Rattle.std.proofs.Common.{◌≡◌, ℕ, ◌+◌, List, ◌++◌, ◌∷◌, [], take, sym, ap, ◌∙◌, arith}
use Rattle.std.proofs.lemmas.List.{take_more_set}
use Rattle.machine.specs.Row.{part}
use Rattle.symbols.specs.Symbol.{symbol}
use Rattle.symbols.proofs.Placing.{part_more}
use Rattle.symbols.proofs.Writes.{part_long, filled}
use Rattle.symbols.proofs.row.number.Goals as goal

pub loop-i-preserved : goal.loop-i-preserved
loop-i-preserved c =
    let i : ℕ = c.loop-i.i in
    let v : ℕ = symbol (c.args.first + i) in
    take_more_set c.loop-i.symbol-items i v (omega (arith, c.loop-i-test.true, c.loop-i.auto.symbol-items)) ∙ ap (λ xs. xs ++ v ∷ []) c.loop-i.invariant ∙ part_more symbol c.args.first i

pub returns : goal.returns
returns c =
    let at : ℕ = c.args.at in
    let n : ℕ = c.args.n in
    let row : List ℕ = c.args.row.now in
    let items : List ℕ = c.loop-i.symbol-items in
    let taken = part_long row at n c.requires in
    let end : c.loop-i.i ≡ n = omega (arith, c.loop-i-test.false, c.loop-i.auto.i-end, taken) in
    filled row items (part symbol c.args.first n) at n c.requires (c.loop-i.auto.symbol-items ∙ taken) (ap (λ k. take k items) (sym end) ∙ c.loop-i.invariant ∙ ap (part symbol c.args.first) end)
