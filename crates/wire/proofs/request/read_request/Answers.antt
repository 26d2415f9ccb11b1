use Rattle.std.proofs.Common.{sym, ◌∙◌, subst, MatchResult, arith}
use Rattle.format.specs.Format.{asked_from}
use Rattle.wire.specs.Asked.{Stands, Unasked}
use Rattle.wire.proofs.Wholes.{short, cut_whole, cut_failed, cut_stands, unasked}
use Rattle.wire.proofs.request.read_request.Goals as goal

pub returns : goal.returns
returns c = cut_whole c.args.bytes.now (omega arith) ∙ cut_stands c.in_ok-read_whole.field-0 _ c.in_ok-read_whole.ensures
