use Rattle.std.proofs.Common.{◌≡◌, ℕ, ◌+◌, length, sym, refl, ap, subst}
use Rattle.machine.specs.Row.{part}
use Rattle.machine.specs.Window.{Written}
use Rattle.machine.proofs.Rows.{length_part}
use Rattle.symbols.specs.View.{in_row}
use Rattle.symbols.proofs.eval.FillingSink.header.Goals as goal

pub returns : goal.returns
returns c =
    let f : ℕ → ℕ = in_row c.args.self.now.heads.now in
    let long : c.args.n ≡ length (part f c.args.start c.args.n) = sym (length_part f c.args.start c.args.n) in (
      refl,
      refl,
      c.copy.auto.row,
      record {
        on = ap (λ m. c.args.self.now.at + m) long;
        wrote = subst (Written (in_row c.args.self.now.out.now) (in_row c.copy.new.row) (part f c.args.start c.args.n) c.args.self.now.at) long c.copy.ensures;
      },
    )
