use Rattle.entails.specs.Answers.{says}
use Rattle.entails.proofs.Says.{holds_is}
use Rattle.entails.proofs.evaluate.holds.Goals as goal

pub returns : goal.returns
returns c = holds_is c.bit_at.result c.from-l.result.negated c.from-l.result.position c.args.l (says c.args.value.now) c.bit_at.ensures c.from-l.ensures.0 c.from-l.ensures.1
