use Rattle.std.proofs.Common.{vec_items}
use Rattle.model.specs.Request.{parse}
use Rattle.scan.proofs.Chain.{took, then_took}
use Rattle.wire.proofs.Lists.{each_is}
use Rattle.wire.proofs.request.ParseFromBytes.read.Goals as goal

pub returns : goal.returns
returns c =
    let p = c.in_ok-parser.ensures in
    let s = c.in_ok-headers.ensures in
    let q = c.in_ok-start.ensures.reads in
    let b = c.in_ok-input.ensures in
    then_took _ p (then_took _ s (then_took _ q (then_took _ b
    (took (parse p.value s.value q.value b.value) b.within
    (record {
      parser = p.value;
      store = s.value;
      is = rw (q.meant, b.meant);
      parser_is = p.meant;
      store_is = each_is vec_items (vec_items c.in_ok-headers.headers) s.value s.meant;
    })))))
