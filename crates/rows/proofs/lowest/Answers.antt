use Rattle.std.proofs.Common.{◌+◌, ◌/◌, arith}
use Rattle.rows.proofs.Ones.{lowest_none, lowest_some}
use Rattle.rows.proofs.lowest.Goals as goal

pub returns-then-word-eq0 : goal.returns-then-word-eq0
returns-then-word-eq0 c = lowest_none c.args.room.now c.args.base c.args.k c.if-word-eq0.true

pub returns-else-word-eq0 : goal.returns-else-word-eq0
returns-else-word-eq0 c = lowest_some c.args.room.now c.args.base c.args.k c.if-word-eq0.false (omega (arith, c.type_inv.room (c.args.base + c.args.k / 64)))
