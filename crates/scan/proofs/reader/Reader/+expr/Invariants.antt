use Rattle.std.proofs.Common.{◌+◌, ◌*◌}
use Rattle.scan.proofs.reader.Reader.+expr.Given as goal

abbrev pub decreases-expr : goal.decreases-expr
decreases-expr l = 2 * l.depth + 1

abbrev pub decreases-part : goal.decreases-part
decreases-part l = 2 * l.depth
