use Rattle.std.proofs.Common.{length, Err, sym, subst}
use Rattle.model.specs.Request.{lent}
use Rattle.model.specs.Promise.{Promised}
use Rattle.format.specs.Format.{asked_from}
use Rattle.reply.specs.View.{answer_of}
use Rattle.settling.specs.Refusing.{Settled}
use Rattle.settling.proofs.Answering.{settled_answer, settled_refused}
use Rattle.settling.proofs.stage.answer_at.Goals as goal

pub returns-in-Ok : goal.returns-in-Ok
returns-in-Ok g c = settled_answer g.S.Stage.can (asked_from c.args.request.now) c.args.room.now c.settle.new.room c.in-Ok.answer c.in-Ok.ensures

pub returns-in-Err-Refused : goal.returns-in-Err-Refused
returns-in-Err-Refused g c =
    let q = asked_from c.args.request.now in
    let room = c.args.room.now in
    let room' = c.settle.new.room in
    let refused = subst (λ h. Settled g.S.Stage.can q room room' (Err h)) c.in-Err-Refused.field-0-is c.in-Err-Refused.ensures in
    subst (λ a. Promised g.S.Stage.can (lent (length room) q) (answer_of room' a)) (sym c.from.ensures)
    (settled_refused g.S.Stage.can q room room' c.in-Err-Refused.refusal refused)
