use Rattle.syntax.proofs.ast.Expr.TheLaws.{the_size}
use Rattle.checks.proofs.limits.+pay_expr.Given as goal

abbrev pub decreases-pay_expr : goal.decreases-pay_expr
decreases-pay_expr l = the_size l.e.now
