use Rattle.std.proofs.Common.{◌++◌, ap, ◌∙◌}
use Rattle.model.specs.Config.{is_accept, initial}
use Rattle.model.specs.Theory.{BitByBit}
use Rattle.theory.specs.Walk.{AcceptanceSplits}
use Rattle.theory.proofs.Stepping.{bit_by_bit}
use Rattle.theory.proofs.Waiting.{steps-append}
use Rattle.theory.proofs.acceptance_splits.Goals as goal

pub returns : goal.returns
unfolding AcceptanceSplits BitByBit
returns c = λ p q s v w right l fits bits. bit_by_bit p q s (v ++ w) right l fits bits ∙ ap (λ a. is_accept a.target) (steps-append p (initial q s) v w)
