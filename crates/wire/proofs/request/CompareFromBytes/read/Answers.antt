use Rattle.model.specs.Request.{compare}
use Rattle.scan.proofs.Chain.{exit, took, then_took, here_stopped, then_stopped}
use Rattle.wire.proofs.request.CompareFromBytes.read.Goals as goal

pub returns-in_err-room : goal.returns-in_err-room
returns-in_err-room c =
    let x = c.from_residual-in_err-room in
    exit _ x.result x.ensures.1
    (then_stopped _ c.in_ok-first.ensures (then_stopped _ c.in_ok-second.ensures (then_stopped _ c.in_ok-first_start.ensures.reads (then_stopped _ c.in_ok-second_start.ensures.reads
    (then_stopped _ c.in_ok-work.ensures.reads (here_stopped _ c.in_err-room.ensures.reads))))))
