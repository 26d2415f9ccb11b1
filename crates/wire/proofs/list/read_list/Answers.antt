use Rattle.wire.proofs.Lists.{listing_more, each_more, one_stopped, one_fewer}
use Rattle.wire.proofs.list.read_list.Goals as goal

pub returns-in_err-read : goal.returns-in_err-read
returns-in_err-read g c =
    let x = c.from_residual-in_err-read in
    one_stopped g.T.FromBytes.read_by c.in_ok-count.ensures.reads _ x.result x.ensures.1 c.loop.invariant c.loop-test.true c.in_err-read.ensures

pub loop-preserved : goal.loop-preserved
loop-preserved g c =
    let t = c.in_ok-read.ensures in
    listing_more c.loop.invariant _ (one_fewer _ _ c.loop-test.true) t _
    (rw c.in_ok-push.ensures.items (each_more g.T.FromBytes.means _ c.loop.invariant.prefix c.in_ok-read.field-0 t.value c.loop.invariant.meant t.meant))
