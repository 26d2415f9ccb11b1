use Rattle.std.proofs.Common.{ℕ, List, map, Bor, ap, ◌∙◌, arith}
use Rattle.model.specs.Refusal.{every, named_op, sized_op}
use Rattle.syntax.specs.View.{op_of}
use Rattle.machine.specs.View.{sizes_in}
use Rattle.machine.proofs.Performing.{extract_room, extracted, assign_fits, assigned, all_done}
use Rattle.machine.proofs.Ready.{extract_known}
use Rattle.symbols.specs.View.{symbols_in}
use Rattle.symbols.proofs.walk.perform.Goals as goal
use Rattle.symbols.proofs.walk.perform.Goals.{in-Extract, in-Assign}

pub size-requires : goal.size-requires
size-requires c =
    let ns : List ℕ = sizes_in c.args.machine.now in
    let named = ap (λ os. every (named_op ns) (map op_of os)) c.deref-op-items.ensures.value ∙ c.requires.sound.named_ops in
    extract_known ns c.deref-op-items.result.now named c.loop-op-test.true c.op-item.is c.in-Extract.is

pub split_at-requires : goal.split_at-requires
split_at-requires c = omega (arith, extract_room (sizes_in c.args.machine.now) c.loop-op.invariant c.loop-op-test.true c.op-item.is c.in-Extract.is, c.size.ensures)

pub put-requires : goal.put-requires
put-requires c =
    let ns : List ℕ = sizes_in c.args.machine.now in
    let named = ap (λ os. every (named_op ns) (map op_of os)) c.deref-op-items.ensures.value ∙ c.requires.sound.named_ops in
    record {
      known = extract_known ns c.deref-op-items.result.now named c.loop-op-test.true c.op-item.is c.in-Extract.is;
      there = omega (arith, c.requires.there, c.loop-op.auto.heads);
      long = omega (arith, c.split_at.ensures.front_len, c.size.ensures);
    }

pub assign-requires : goal.assign-requires
assign-requires c =
    let ns : List ℕ = sizes_in c.args.machine.now in
    let named = ap (λ os. every (named_op ns) (map op_of os)) c.deref-op-items.ensures.value ∙ c.requires.sound.named_ops in
    let sized = ap (λ os. every (sized_op ns) (map op_of os)) c.deref-op-items.ensures.value ∙ c.requires.sound.sized_ops in
    let f = assign_fits ns c.deref-op-items.result.now named sized c.loop-op-test.true c.op-item.is c.in-Assign.is in
    record {
      known = f.known;
      proper = record { named = f.named; sized = f.sized };
      wide = f.wide;
      there = omega (arith, c.requires.there, c.loop-op.auto.heads);
      aside = omega (arith, c.requires.aside, c.loop-op.auto.scratch);
    }

pub loop-op-preserved : goal.loop-op-preserved
loop-op-preserved c =
    let ns : List ℕ = sizes_in c.args.machine.now in
    elim c.match-op.branch [
      | in-Extract w ↦
          extracted ns c.loop-op.invariant c.loop-op-test.true c.op-item.is w.in-Extract.is w.size.ensures w.split_at.ensures.front w.split_at.ensures.back (ap (λ (r : Bor (List ℕ)). r.now) w.rest-is)
          (ap (symbols_in c.args.machine.now) w.heads-is ∙ w.put.ensures)
      | in-Assign w ↦
          assigned ns c.loop-op.invariant c.loop-op-test.true c.op-item.is w.in-Assign.is (ap (λ (r : Bor (List ℕ)). r.now) w.rest-is)
          (ap (symbols_in c.args.machine.now) w.heads-is ∙ w.assign.ensures)
    ]

pub returns : goal.returns
returns c = all_done (sizes_in c.args.machine.now) c.loop-op.invariant c.loop-op-test.false
