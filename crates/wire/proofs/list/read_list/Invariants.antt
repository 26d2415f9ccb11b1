use Rattle.std.proofs.Common.{◌-◌}
use Rattle.format.specs.Read.{read_many}
use Rattle.scan.specs.Reads.{left}
use Rattle.wire.specs.Kept.{Each}
use Rattle.wire.proofs.Lists.{Listing}
use Rattle.wire.proofs.list.read_list.Given as goal

abbrev pub invariant-loop : goal.invariant-loop
invariant-loop g l =
    Listing g.T.FromBytes.read_by (Each g.T.FromBytes.means) l.initial.reader l.reader (read_many g.T.FromBytes.read_by l.count (left l.initial.reader)) (l.count - l.counter) l.items
