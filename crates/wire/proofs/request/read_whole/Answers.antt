use Rattle.std.proofs.Common.{length, sym, subst}
use Rattle.format.specs.Format.{whole, read_request}
use Rattle.scan.specs.Reads.{Place, left, Took, Stopped}
use Rattle.wire.specs.Asked.{Stands, Unasked}
use Rattle.wire.proofs.Wholes.{whole_took, left_over, whole_stopped, unasked}
use Rattle.wire.proofs.request.read_whole.Goals as goal

pub returns-in_err-request : goal.returns-in_err-request
returns-in_err-request c =
    let x = c.from_residual in
    let begin = c.new-reader.ensures in
    unasked _ (whole (length c.args.bytes.now) (read_request c.args.bytes.now)) _ x.result x.ensures.1
    (whole_stopped (subst (λ (p : Place). Stopped (read_request (left p)) p c.read.new.reader c.in_err-request.field-0.0) begin c.in_err-request.ensures))

pub returns-in_err-end : goal.returns-in_err-end
returns-in_err-end c =
    let x = c.from_residual-in_err-end in
    let e = c.in_err-end.ensures in
    let t = subst (λ (p : Place). Took (read_request (left p)) Stands p c.in_ok-request.request c.read.new.reader) c.new-reader.ensures c.in_ok-request.ensures in
    unasked _ (whole (length c.args.bytes.now) (read_request c.args.bytes.now)) _ x.result x.ensures.1
    (subst (λ f. Unasked (whole (length c.args.bytes.now) (read_request c.args.bytes.now)) f) (sym e.0) (left_over Stands t e.1))

pub returns : goal.returns
returns c =
    let t = subst (λ (p : Place). Took (read_request (left p)) Stands p c.in_ok-request.request c.read.new.reader) c.new-reader.ensures c.in_ok-request.ensures in
    whole_took Stands t c.in_ok-end.ensures
