use Rattle.std.proofs.Common.{sym}
use Rattle.reach.specs.Tables.{odd_in, entry}
use Rattle.reach.proofs.Traces.{no_parent, parent_test}
use Rattle.reach.proofs.way.is_parent.Goals as goal

pub returns-then-is_odd : goal.returns-then-is_odd
returns-then-is_odd g c =
    let m = g.S.System.model c.args.system.now in
    let t = c.args.tables.now in
    no_parent m (odd_in t) (entry t) c.args.j c.args.k c.is_odd.result c.is_odd-2.result (sym c.is_odd.ensures) (sym c.is_odd-2.ensures) c.if-is_odd.true

pub returns : goal.returns
returns g c =
    let m = g.S.System.model c.args.system.now in
    let t = c.args.tables.now in
    parent_test m (odd_in t) (entry t) c.args.j c.args.k c.is_odd.result c.is_odd-2.result (sym c.is_odd.ensures) (sym c.is_odd-2.ensures) c.entry-entry.result c.entry.result c.after.result c.entry-entry.ensures c.entry.ensures c.after.ensures.value c.if-is_odd.false
