use Rattle.std.proofs.Common.{◌≡◌, ℕ, ◌+◌, ◌*◌, ◌≤◌, List, ◌++◌, map, length, take, sym, refl, ap, ◌∙◌, subst, ⊎_elim, arith}
use Rattle.model.specs.Parser.{Store}
use Rattle.syntax.specs.View.{expr_of, pattern_of}
use Rattle.machine.specs.View.{sizes_in}
use Rattle.machine.proofs.Matching.{as_many}
use Rattle.symbols.specs.Symbol.{condition_of}
use Rattle.symbols.specs.View.{symbols_in}
use Rattle.symbols.proofs.Conditions.{Left, proper, as_wide, passes_any, wrote, all_written, room_left}
use Rattle.symbols.proofs.heads.Heads.hold.Goals as goal

pub loop-key-preserved-in-Exactly : goal.loop-key-preserved-in-Exactly
loop-key-preserved-in-Exactly c =
    let steps = c.in-Some.ensures.steps in
    let r : c.loop-key.next + 2 * c.len.result ≤ length c.loop-key.out = room_left c.loop-key.next c.len.result (length c.loop-key.out) c.loop-key.invariant.room c.if-out-next.false in
    wrote _ _ _ _ c.loop-key.invariant steps.0 steps.1 c.in-Exactly.is c.write_pairs-next.ensures.wrote c.deref.ensures.value (omega (arith, c.write_pairs-next.ensures.end))
    (omega (arith, c.write_pairs-next.ensures.end, c.write_pairs-next.auto.out, c.deref.ensures.len, c.len.ensures))

pub returns : goal.returns
returns c =
    let many = as_many (sizes_in c.args.self.now.machine.now) c.loop-key.key-iterator.a.rest.now c.loop-key.key-iterator.b.rest.now c.loop-key.invariant.wide in
    let none : length c.loop-key.key-iterator.b.rest.now ≡ 0 = ⊎_elim (λ p. sym many ∙ p.1.0) (λ p. p.1.0) c.in-None.ensures.steps in
    record {
      below = c.loop-key.invariant.kept;
      end = (c.loop-key.invariant.reached, c.loop-key.invariant.room);
      wrote = all_written _ _ _ _ c.loop-key.invariant none;
    }
