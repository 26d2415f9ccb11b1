use Rattle.std.proofs.Common.{◌-◌, ◌≤◌, length, subst, arith}
use Rattle.scan.specs.Reads.{Place}
use Rattle.scan.proofs.Chain.{exit}
use Rattle.scan.proofs.Skimming.{started, goes_on, over, breaks}
use Rattle.scan.proofs.reader.Reader.skim.Goals as goal

pub loop-owed-init : goal.loop-owed-init
loop-owed-init c = started _ (subst (λ (p : Place). p.at ≤ length p.bytes) c.self.view_is c.self.invariant)

pub returns-in_err-owed : goal.returns-in_err-owed
returns-in_err-owed c =
    let x = c.from_residual in exit _ x.result x.ensures.1 (breaks c.loop-owed.invariant (c.loop-owed.owed - 1) (omega arith) c.in_err-owed.ensures.reads)

pub loop-owed-preserved : goal.loop-owed-preserved
loop-owed-preserved c =
    let e = c.in_ok-owed.ensures in
    goes_on c.loop-owed.invariant (c.loop-owed.owed - 1) (omega arith) e.reads _ (omega arith) (omega (arith, c.loop-owed.invariant.few, e.further.0, e.further.1))

pub returns : goal.returns
returns c = over c.loop-owed.invariant (omega arith)
