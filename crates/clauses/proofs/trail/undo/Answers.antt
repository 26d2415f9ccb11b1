use Rattle.std.proofs.Common.{◌≡◌, ◌+◌, ◌-◌, refl, subst, arith}
use Rattle.clauses.specs.Known.{Trailed}
use Rattle.clauses.proofs.Trails.{trailed_pop, trailed_inside}
use Rattle.clauses.proofs.trail.undo.Goals as goal

pub loop-d-preserved-then-q-value : goal.loop-d-preserved-then-q-value
loop-d-preserved-then-q-value c =
    let h = c.loop-d.invariant in
    let value = c.loop-d.value in
    let trail = c.args.trail.now in
    let e : c.loop-d.d ≡ c.loop-d.d - 1 + 1 = omega (arith, c.loop-d-test.true) in (
      λ le. omega (arith, c.loop-d-test.true),
      λ before b low deep t. trailed_pop before value trail b (c.loop-d.d - 1) _ (subst (λ x. Trailed before value trail b x) e (h.1 before b low deep t)) (omega (arith, low, c.loop-d-test.true)) refl c.if-q-value.true,
    )

pub loop-d-preserved : goal.loop-d-preserved
loop-d-preserved c =
    let h = c.loop-d.invariant in
    let value = c.loop-d.value in
    let trail = c.args.trail.now in
    let e : c.loop-d.d ≡ c.loop-d.d - 1 + 1 = omega (arith, c.loop-d-test.true) in (
      λ le. omega (arith, c.loop-d-test.true),
      λ before b low deep t. absurd (trailed_inside before value trail b (c.loop-d.d - 1) _ (subst (λ x. Trailed before value trail b x) e (h.1 before b low deep t)) (omega (arith, low, c.loop-d-test.true)) refl c.if-q-value.false),
    )

pub returns : goal.returns
returns c = λ before b low le t.
    let h = c.loop-d.invariant in
    let e : c.loop-d.d ≡ c.args.base = omega (arith, c.loop-d-test.false, h.0 le) in
    subst (λ x. Trailed before c.loop-d.value c.args.trail.now b x) e (h.1 before b low le t)
