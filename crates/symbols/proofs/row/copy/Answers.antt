use Rattle.std.proofs.Common.{◌≡◌, ℕ, ◌+◌, ◌-◌, List, ◌++◌, take, drop, sym, ap, ◌∙◌, subst, arith}
use Rattle.machine.specs.Row.{part}
use Rattle.machine.specs.Window.{Written}
use Rattle.machine.proofs.Rows.{length_part}
use Rattle.symbols.specs.View.{in_row}
use Rattle.symbols.proofs.Placing.{list_part}
use Rattle.symbols.proofs.Writes.{part_written}
use Rattle.symbols.proofs.row.copy.Goals as goal

pub returns : goal.returns
returns c =
    let at : ℕ = c.args.at in
    let n : ℕ = c.args.n in
    let row : List ℕ = c.args.row.now in
    let xs : List ℕ = part (in_row c.args.other.now) c.args.start n in
    let all : at + n - at ≡ n = omega arith in
    let many : c.args.start + n - c.args.start ≡ n = omega arith in
    let copied : c.copy_from_slice.new.self ≡ xs = c.copy_from_slice.ensures.after ∙ ap (λ m. take m (drop c.args.start c.args.other.now)) many ∙ list_part c.args.other.now c.args.start n c.requires.there in
    subst (λ ys. Written (in_row row) (in_row (take at row ++ (ys ++ drop (at + n - at) (drop at row)))) xs at n) (sym copied)
    (subst (λ m. Written (in_row row) (in_row (take at row ++ (xs ++ drop m (drop at row)))) xs at n) (sym all)
    (part_written row xs at n c.requires.room (length_part (in_row c.args.other.now) c.args.start n)))
