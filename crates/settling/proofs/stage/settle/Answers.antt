use Rattle.std.proofs.Common.{sym, subst}
use Rattle.std.proofs.lemmas.Result.{err_from_is_err_and}
use Rattle.format.specs.Format.{asked_from}
use Rattle.wire.specs.Asked.{Stands}
use Rattle.settling.specs.Refusing.{Settled}
use Rattle.settling.proofs.stage.settle.Goals as goal

pub returns-in_err-asked : goal.returns-in_err-asked
returns-in_err-asked g c =
    let q = asked_from c.args.request.now in
    let halted = err_from_is_err_and c.from_residual.result c.from_residual.ensures.1 in
    subst (Settled g.S.Stage.can q c.args.room.now c.args.room.now) (sym halted.1) (halted.2 g.S.Stage.can q c.args.room.now c.args.room.now c.in_err-asked.ensures)

pub returns-in-Parse : goal.returns-in-Parse
returns-in-Parse g c =
    let q = asked_from c.args.request.now in
    c.settle_parse.ensures g.S.Stage.can g.met.S.Stage.parses q (subst (λ r. Stands r q) c.in-Parse.is c.in_ok-asked.ensures) c.args.room.now
