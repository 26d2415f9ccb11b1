use Rattle.std.proofs.Common.{ℕ, ◌≤◌, List, length, take, set, sym, ap, ◌∙◌, arith}
use Rattle.machine.specs.View.{sizes_in}
use Rattle.machine.proofs.Rows.{start_room, length_part}
use Rattle.symbols.specs.View.{in_row, symbols_in}
use Rattle.symbols.proofs.Placing.{take_part}
use Rattle.machine.proofs.Writes.{header_written}
use Rattle.symbols.proofs.walk.put.Goals as goal

pub copy-requires : goal.copy-requires
copy-requires c =
    record {
      there = omega (arith, c.size.ensures, c.requires.long);
      room = omega (arith, c.start.ensures.value, c.size.ensures, start_room 0 (sizes_in c.args.machine.now) c.args.h c.requires.known, c.requires.there);
    }

pub returns : goal.returns
returns c =
    let xs : List ℕ = c.args.symbols.now in
    let n : ℕ = c.size.result in
    let short : n ≤ length xs = omega (arith, c.size.ensures, c.requires.long) in
    header_written (sizes_in c.args.machine.now) c.args.h c.requires.known (length_part (in_row xs) 0 n ∙ c.size.ensures) c.start.ensures.value c.size.ensures c.copy.ensures
    ∙ ap (set (symbols_in c.args.machine.now c.args.heads.now) c.args.h) (sym (take_part xs n short) ∙ ap (λ m. take m xs) c.size.ensures)
