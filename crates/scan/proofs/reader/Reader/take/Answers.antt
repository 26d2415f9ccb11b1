use Rattle.std.proofs.Common.{ℕ, ◌<◌, ◌≤◌, length, take, refl, ap, subst, arith, length-drop}
use Rattle.format.specs.Read.{read_bytes}
use Rattle.scan.specs.Reads.{Place, left, Stopped, ceased}
use Rattle.scan.specs.declared.fault.Fault.TheVariants.{Garbled}
use Rattle.scan.proofs.Numbers.{enough, too_few, tail}
use Rattle.scan.proofs.reader.Reader.take.Goals as goal

pub returns-then-left-count-clause-reads : goal.returns-then-left-count-clause-reads
returns-then-left-count-clause-reads c =
    let p : Place = record { bytes = c.self.inside.bytes.now; at = c.self.inside.at } in
    let few : length (left p) < c.args.count = rw (tail p.bytes p.at) at c.if-left-count.true in
    subst (λ q. Stopped (read_bytes c.args.count (left q)) q q (Garbled (length p.bytes))) c.self.view_is
    (record { same = refl; why = ceased (too_few p c.args.count few) })
