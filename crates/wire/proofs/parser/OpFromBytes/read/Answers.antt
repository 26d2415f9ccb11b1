use Rattle.std.proofs.Common.{refl}
use Rattle.format.specs.Format.{op_choices}
use Rattle.scan.proofs.Chain.{no_tag, exit}
use Rattle.wire.proofs.parser.OpFromBytes.read.Goals as goal

pub returns-in_err-tag : goal.returns-in_err-tag
returns-in_err-tag c = let x = c.from_residual in exit _ x.result x.ensures.1 (no_tag op_choices 2 (λ _. refl) c.in_err-tag.ensures.reads)
