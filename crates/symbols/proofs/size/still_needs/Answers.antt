use Rattle.std.proofs.Common.{◌-◌, sym, ap, ◌∙◌, arith}
use Rattle.symbols.proofs.Points.{state_known, state_needs, end_needs}
use Rattle.symbols.proofs.size.still_needs.Goals as goal

pub overflow_sub-result : goal.overflow_sub-result
overflow_sub-result c = omega (arith, c.width.ensures, state_needs c.args.machine.now c.args.point c.in-State.is, c.requires.ready)

pub overflow_sub-result-in-Accept : goal.overflow_sub-result-in-Accept
overflow_sub-result-in-Accept c = omega (arith, end_needs c.args.machine.now c.args.point c.in-Accept.is, c.requires.ready)

pub returns-in-State : goal.returns-in-State
returns-in-State c = ap (λ n. n - c.args.point.taken) (c.width.ensures ∙ sym (state_needs c.args.machine.now c.args.point c.in-State.is))

pub returns-in-Accept : goal.returns-in-Accept
returns-in-Accept c = ap (λ n. n - c.args.point.taken) (sym (end_needs c.args.machine.now c.args.point c.in-Accept.is))
