use Rattle.syntax.proofs.ast.Expr.TheLaws.{the_size}
use Rattle.checks.proofs.limits.+is_shallow.Given as goal

abbrev pub decreases-is_shallow : goal.decreases-is_shallow
decreases-is_shallow l = the_size l.e.now
