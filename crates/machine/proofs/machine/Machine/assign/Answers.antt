use Rattle.std.proofs.Common.{◌≡◌, ℕ, List, set, sym, ◌∙◌, arith, rules}
use Rattle.model.specs.Parser.{value}
use Rattle.syntax.specs.View.{expr_of, parser_of}
use Rattle.machine.specs.Row.{bit_in, headers}
use Rattle.machine.specs.View.{contents, sizes_in}
use Rattle.machine.proofs.Facts.{right_from}
use Rattle.machine.proofs.Rows.{sizes_kept}
use Rattle.machine.proofs.Values.{value_long}
use Rattle.machine.proofs.Handing.{taken, wrote_whole}
use Rattle.machine.proofs.Writes.{header_written}
use Rattle.machine.proofs.machine.Machine.assign.Goals as goal

pub returns : goal.returns
returns c =
    let ns : List ℕ = sizes_in c.args.self.now in
    let f : ℕ → ℕ = bit_in c.args.store.now.words in
    let ok = c.requires.proper in
    let v : List ℕ = value (headers f 0 ns) (expr_of c.args.e.now) in
    let long = value_long (headers f 0 ns) ns (sizes_kept f 0 ns) (expr_of c.args.e.now) ok.named ok.sized ∙ c.requires.wide in
    let took = taken _ v c.first.result c.hand.result c.hand.ensures in
    let wrote = wrote_whole v (long ∙ sym c.size.ensures) c.first.ensures.skip c.first.ensures.most took.2 in
    let name = sym took.1 in
    let done : contents c.args.self.now c.hand.new.sink.store.now ≡ set (contents c.args.self.now c.args.store.now) c.args.h v
    = header_written ns c.args.h c.requires.known long c.start.ensures.value c.size.ensures wrote in
    search rules
