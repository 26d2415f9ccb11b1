use Rattle.std.proofs.Common.{arith}
use Rattle.syntax.specs.View.{expr_of}
use Rattle.checks.proofs.Within.{parts_positive}
use Rattle.checks.proofs.limits.+pay_expr.Goals as goal

pub returns-in_err-left : goal.returns-in_err-left
returns-in_err-left t c = rw c.from_residual.ensures (omega (arith, c.in_err-left.ensures, parts_positive (expr_of c.args.e.now)))
