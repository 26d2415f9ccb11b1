use Rattle.std.proofs.Common.{ℕ, ◌≤◌, List, length, take, set, sym, ap, ◌∙◌, arith}
use Rattle.syntax.specs.View.{expr_of}
use Rattle.machine.specs.View.{sizes_in}
use Rattle.machine.proofs.Rows.{start_room, sizes_kept}
use Rattle.machine.proofs.Values.{value_long}
use Rattle.machine.specs.Row.{headers}
use Rattle.symbols.specs.View.{in_row, symbols_in}
use Rattle.symbols.proofs.Placing.{take_part}
use Rattle.machine.proofs.Writes.{written_part}
use Rattle.symbols.proofs.walk.assign.Goals as goal

pub fill-requires : goal.fill-requires
fill-requires c =
    record {
      proper = c.requires.proper;
      wide = c.size.ensures ∙ sym c.requires.wide;
      room = omega (arith, c.size.ensures, start_room 0 (sizes_in c.args.machine.now) c.args.h c.requires.known, c.requires.aside);
    }

pub put-requires : goal.put-requires
put-requires c =
    record {
      known = c.requires.known;
      there = c.requires.there;
      long = omega (arith, start_room 0 (sizes_in c.args.machine.now) c.args.h c.requires.known, c.requires.aside, c.fill.auto.out);
    }

pub returns : goal.returns
returns c =
    let ns : List ℕ = sizes_in c.args.machine.now in
    let f : ℕ → ℕ = in_row c.args.heads.now in
    let n : ℕ = c.size.result in
    let xs : List ℕ = c.fill.new.out in
    let long = value_long (headers f 0 ns) ns (sizes_kept f 0 ns) (expr_of c.args.e.now) c.requires.proper.named c.requires.proper.sized ∙ c.requires.wide ∙ sym c.size.ensures in
    let short : n ≤ length xs = omega (arith, c.size.ensures, start_room 0 ns c.args.h c.requires.known, c.requires.aside, c.fill.auto.out) in
    c.put.ensures
    ∙ ap (set (symbols_in c.args.machine.now c.args.heads.now) c.args.h) (ap (λ m. take m xs) (sym c.size.ensures) ∙ take_part xs n short ∙ written_part long c.fill.ensures)
