use Rattle.std.proofs.Common.{ℕ, List, sym, ◌∙◌, rules}
use Rattle.model.specs.Parser.{value}
use Rattle.syntax.specs.View.{expr_of}
use Rattle.machine.specs.Row.{headers}
use Rattle.machine.specs.View.{sizes_in}
use Rattle.machine.proofs.Handing.{taken, wrote_whole}
use Rattle.machine.proofs.Rows.{sizes_kept}
use Rattle.machine.proofs.Values.{value_long}
use Rattle.symbols.specs.View.{in_row}
use Rattle.symbols.proofs.heads.Heads.fill.Goals as goal

pub returns : goal.returns
returns c =
    let ns : List ℕ = sizes_in c.args.self.now.machine.now in
    let f : ℕ → ℕ = in_row c.args.self.now.symbols.now in
    let ok = c.requires.proper in
    let v : List ℕ = value (headers f 0 ns) (expr_of c.args.e.now) in
    let long = value_long (headers f 0 ns) ns (sizes_kept f 0 ns) (expr_of c.args.e.now) ok.named ok.sized ∙ sym c.requires.wide in
    let took = taken _ v c.first.result c.hand.result c.hand.ensures in
    let wrote = wrote_whole v long c.first.ensures.skip c.first.ensures.most took.3 in
    let name = sym took.1 in
    search rules
