use Rattle.std.proofs.Common.{ℕ, ◌≤◌, refl, ap, ◌∙◌, inl, inr, ⊎_elim, arith}
use Rattle.model.specs.Parser.{Parser, run_ops}
use Rattle.model.specs.Refusal.{widest}
use Rattle.syntax.specs.View.{target_of}
use Rattle.syntax.specs.declared.ast.Target.{Target}
use Rattle.theory.specs.Number.{number_bits}
use Rattle.machine.specs.View.{parser_in, sizes_in, state_in}
use Rattle.product.specs.declared.config.Config.{Config}
use Rattle.product.specs.declared.counted.Counted.{Counted}
use Rattle.product.specs.declared.side.Side.{Side}
use Rattle.product.specs.View.{store_of}
use Rattle.product.proofs.Exponents.{bits_small}
use Rattle.product.proofs.Steps.{Stepped, buffer_small, held_few, needs_state, waits, leaves, ends}
use Rattle.product.proofs.counted.Counted.step.Goals as goal

wide : (s : Counted) → widest (sizes_in s.side.machine) (parser_in s.side.machine).states ≤ 59
wide s = omega (arith, bits_small s)

pub push-buffer-requires : goal.push-buffer-requires
push-buffer-requires c =
    let s : Side = c.args.self.now.side in
    let w : ℕ = widest (sizes_in s.machine) (parser_in s.machine).states in
    record {
      small = buffer_small w c.args.c.buffer (wide c.args.self.now) c.requires.stands.buffer;
      within = held_few w c.args.c.buffer (wide c.args.self.now) c.requires.stands.buffer c.ilog2-held.result c.ilog2-held.ensures.power_le;
      bit = c.requires.bit;
    }

pub returns-then-held-n : goal.returns-then-held-n
returns-then-held-n c =
    let s : Side = c.args.self.now.side in
    let p : Parser = parser_in s.machine in
    let r : Config = record { target = c.args.c.target; headers = c.args.c.headers; buffer = c.push-buffer.result } in
    let more = needs_state p (ap target_of c.in-State.is) in
    let stepped : Stepped p c.args.c c.args.bit r =
    waits p s.machine.checked.right s.start s.begins c.args.c c.requires.stands c.args.bit c.requires.bit c.ilog2-held.result c.ilog2-held.ensures.power_le c.ilog2-held.ensures.next_power_gt
    r refl refl c.push-buffer.ensures (omega (arith, more, c.width-n.ensures, c.if-held-n.true)) in
    record { same = stepped.same; stands = stepped.stands }

pub returns-else-held-n : goal.returns-else-held-n
returns-else-held-n c =
    let s : Side = c.args.self.now.side in
    let p : Parser = parser_in s.machine in
    let r : Config = c.walk.result in
    let stepped : Stepped p c.args.c c.args.bit r =
    leaves p s.machine.checked.right s.start s.begins c.args.c c.requires.stands c.args.bit c.requires.bit c.ilog2-held.result c.ilog2-held.ensures.power_le c.ilog2-held.ensures.next_power_gt
    c.in-State.q c.width-n.result (ap target_of c.in-State.is) c.width-n.ensures c.if-held-n.false
    r (c.walk.ensures.done ∙ ap (λ x. run_ops p.sizes (state_in s.machine c.in-State.q).ops (number_bits c.width-n.result x) (store_of p.sizes c.args.c.headers)) c.push-buffer.ensures)
    c.walk.ensures.leads c.walk.ensures.below c.walk.ensures.empty in
    record { same = stepped.same; stands = stepped.stands }

pub returns-in-Accept : goal.returns-in-Accept
returns-in-Accept c =
    let s : Side = c.args.self.now.side in
    let p : Parser = parser_in s.machine in
    let r : Config = record { target = Target.Reject; headers = c.args.c.headers; buffer = 1 } in
    let stepped : Stepped p c.args.c c.args.bit r =
    ends p s.machine.checked.right s.start s.begins c.args.c c.requires.stands c.args.bit c.requires.bit
    (⊎_elim (λ e. inl (ap target_of e)) (λ e. inr (ap target_of e)) c.in-Accept.is) r refl refl refl in
    record { same = stepped.same; stands = stepped.stands }
