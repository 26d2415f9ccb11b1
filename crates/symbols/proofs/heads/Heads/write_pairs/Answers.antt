use Rattle.std.proofs.Common.{ℕ, List, ◌++◌, sym, refl, ◌∙◌, ap₂, arith}
use Rattle.syntax.specs.View.{expr_of}
use Rattle.machine.specs.View.{sizes_in}
use Rattle.machine.proofs.Values.{value_long}
use Rattle.machine.specs.Row.{headers}
use Rattle.symbols.specs.View.{in_row}
use Rattle.symbols.specs.Symbol.{paired}
use Rattle.machine.proofs.Rows.{sizes_kept}
use Rattle.machine.proofs.Writes.{written_part}
use Rattle.symbols.proofs.Writes.{front_stays}
use Rattle.symbols.proofs.heads.Heads.write_pairs.Goals as goal

pub returns : goal.returns
returns c =
    let ns : List ℕ = sizes_in c.args.self.now.machine.now in
    let f : ℕ → ℕ = in_row c.args.self.now.symbols.now in
    let bs : List ℕ = c.args.bits.now in
    let ok = c.requires.proper in
    let long = value_long (headers f 0 ns) ns (sizes_kept f 0 ns) (expr_of c.args.key.now) ok.named ok.sized ∙ sym c.requires.wide in
    record {
      end = refl;
      wrote = c.pair_up.ensures
          ∙ ap₂ (λ xs v. xs ++ paired v bs) (front_stays c.args.out.now c.fill.new.out c.args.at (omega arith) (omega (arith, c.fill.auto.out)) (omega arith) c.fill.ensures) (written_part long c.fill.ensures);
    }
