use Rattle.syntax.proofs.ast.Expr.TheLaws.{the_size}
use Rattle.machine.proofs.machine.Machine.+pour.Given as goal

abbrev pub decreases-pour : goal.decreases-pour
decreases-pour g l = the_size l.e.now
