use Rattle.std.proofs.Common.{◌-◌, length}
use Rattle.format.specs.Format.{read_expr}
use Rattle.scan.specs.Reads.{left}
use Rattle.scan.proofs.Skimming.{Skimming}
use Rattle.scan.proofs.reader.Reader.skim.Given as goal

abbrev pub invariant-loop-owed : goal.invariant-loop-owed
invariant-loop-owed l = Skimming (read_expr (left l.initial.self)) l.initial.self l.self l.owed

abbrev pub decreases-loop-owed : goal.decreases-loop-owed
decreases-loop-owed l = length l.initial.self.bytes - l.self.at
