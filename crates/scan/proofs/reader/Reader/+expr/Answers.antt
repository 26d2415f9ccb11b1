use Rattle.std.proofs.Common.{ap, arith}
use Rattle.model.specs.Parser.{header, bits, slice, join}
use Rattle.scan.proofs.Chain.{took, then_took}
use Rattle.scan.proofs.Trees.{expr_took}
use Rattle.scan.proofs.reader.Reader.+expr.Goals as goal

pub expr-returns-in_ok-u16-in-0 : goal.expr-returns-in_ok-u16-in-0
expr-returns-in_ok-u16-in-0 t c =
    let u = c.in_ok-u16-in-0.ensures.reads in expr_took c.in_ok-tag.ensures.reads c.in-0.is (then_took _ u (took (header u.value) u.within (ap header u.meant)))

pub expr-returns-in_ok-kept_row-in-1 : goal.expr-returns-in_ok-kept_row-in-1
expr-returns-in_ok-kept_row-in-1 t c =
    let u = c.in_ok-kept_row-in-1.ensures in expr_took c.in_ok-tag.ensures.reads c.in-1.is (then_took _ u (took (bits u.value) u.within (ap bits u.meant)))

pub expr-returns-in_ok-slice-in-2 : goal.expr-returns-in_ok-slice-in-2
expr-returns-in_ok-slice-in-2 t c =
    let lo = c.in_ok-lo-in-2.ensures.reads in
    let hi = c.in_ok-hi-in-2.ensures.reads in
    let e = c.in_ok-inner-in-2.ensures in
    expr_took c.in_ok-tag.ensures.reads c.in-2.is
    (then_took _ lo (then_took _ hi (then_took _ e
    (took (slice e.value lo.value hi.value) e.within (rw (← lo.meant, ← hi.meant) (c.in_ok-slice-in-2.ensures e.value c.args.depth e.meant))))))

pub expr-returns-in_ok-join-in_default : goal.expr-returns-in_ok-join-in_default
expr-returns-in_ok-join-in_default t c =
    let d = c.in_ok-left-in_default.ensures in
    let e = c.in_ok-right-in_default.ensures in
    expr_took {k = 3} c.in_ok-tag.ensures.reads (omega (arith, c.in_ok-tag.ensures.below))
    (then_took _ d (then_took _ e (took (join d.value e.value) e.within (c.in_ok-join-in_default.ensures d.value e.value c.args.depth d.meant e.meant))))
