use Rattle.std.proofs.Common.{◌<◌, ◌≤◌, length, arith}
use Rattle.std.proofs.lemmas.List.{get_or-set_same}
use Rattle.reach.proofs.Messages.{within_way, spelling_skip, spelling_take, spelling_all}
use Rattle.reach.proofs.way.spell.Goals as goal

pub loop-next-preserved-in-None : goal.loop-next-preserved-in-None
loop-next-preserved-in-None c =
    let h = c.loop-next.invariant in
    let spent = c.in_ok-spend.ensures.spent in (
      spelling_skip c.args.tables.now c.loop-next.message c.args.root c.args.last c.loop-next.next c.loop-next.len h.0 c.requires.top c.loop-next-test.true c.in-None.ensures,
      omega (arith, spent, h.1),
      omega (arith, spent, h.2),
    )

pub entry-bit-requires : goal.entry-bit-requires
entry-bit-requires c =
    let inside = within_way c.args.tables.now c.loop-next.message c.args.root c.args.last c.loop-next.next c.loop-next.len c.loop-next.invariant.0 c.requires.top c.loop-next-test.true c.in-Some.k c.in-Some.ensures.zeros in
    omega (arith, inside, c.requires.inside)

pub loop-next-preserved : goal.loop-next-preserved
loop-next-preserved c =
    let h = c.loop-next.invariant in
    let found = c.in-Some.ensures in
    let put = c.put.ensures in
    let spent = c.in_ok-spend.ensures.spent in (
      spelling_take c.args.tables.now c.loop-next.message c.args.root c.args.last c.loop-next.next c.loop-next.len h.0 c.requires.top c.loop-next-test.true c.in-Some.k c.entry-bit.result c.put.new.room found c.entry-bit.ensures put.here put.others,
      omega (arith, spent, h.1),
      omega (arith, spent, found.near, h.2),
    )

pub returns : goal.returns
returns c =
    let h = c.loop-next.invariant in
    let fits : 0 < length c.loop-next.message = omega (arith, c.requires.fits, c.loop-next.auto.message) in
    let few : c.loop-next.len ≤ c.args.last = omega (arith, h.0.ahead, h.0.near) in
    record {
      row = spelling_all c.args.tables.now c.loop-next.message c.args.root c.args.last c.loop-next.next c.loop-next.len h.0 c.loop-next-test.false fits;
      few = omega (arith, get_or-set_same c.loop-next.message 0 c.loop-next.len 0 fits, few);
      within = (h.1, omega (arith, h.2, h.0.near, few, c.requires.inside));
    }
