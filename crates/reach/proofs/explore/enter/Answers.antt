use Rattle.std.proofs.Common.{◌<◌, arith}
use Rattle.reach.specs.Tables.{seen}
use Rattle.reach.proofs.Counts.{blanks_some}
use Rattle.reach.proofs.explore.enter.Goals as goal

pub push-requires-clause-spare : goal.push-requires-clause-spare
push-requires-clause-spare g c =
    let t = c.args.tables.now in
    let below : c.args.q < c.args.tables.now.count = omega (arith, c.requires.below, c.requires.size) in
    omega (arith, blanks_some (seen t) c.args.q c.requires.fresh t.count below, c.requires.spare)
