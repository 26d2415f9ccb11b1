use Rattle.std.proofs.Common.{◌-◌}
use Rattle.format.specs.Read.{read_many}
use Rattle.scan.specs.Reads.{left}
use Rattle.wire.specs.Kept.{EachKept}
use Rattle.wire.proofs.Lists.{Listing}
use Rattle.wire.proofs.list.read_kept.Given as goal

abbrev pub invariant-loop : goal.invariant-loop
invariant-loop g l = Listing g.T.FromBytes.read_by (EachKept g.T.FromBytes.means) l.initial.reader l.reader (read_many g.T.FromBytes.read_by l.count (left l.initial.reader)) (l.count - l.counter) l.items
