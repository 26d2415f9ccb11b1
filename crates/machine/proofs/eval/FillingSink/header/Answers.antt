use Rattle.std.proofs.Common.{◌≡◌, ℕ, ◌+◌, length, sym, refl, ap, subst}
use Rattle.machine.specs.Row.{bit_in, part}
use Rattle.machine.specs.Window.{Written}
use Rattle.machine.proofs.Rows.{length_part}
use Rattle.machine.proofs.eval.FillingSink.header.Goals as goal

pub returns : goal.returns
returns c =
    let f : ℕ → ℕ = bit_in c.args.self.now.before.now.words in
    let long : c.args.n ≡ length (part f c.args.start c.args.n) = sym (length_part f c.args.start c.args.n) in (
      refl,
      refl,
      record {
        on = ap (λ m. c.args.self.now.at + m) long;
        wrote = subst (Written (bit_in c.args.self.now.store.now.words) (bit_in c.copy.new.self.words) (part f c.args.start c.args.n) c.args.self.now.at) long c.copy.ensures;
      },
    )
