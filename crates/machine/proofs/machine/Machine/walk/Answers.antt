use Rattle.std.proofs.Common.{ℕ, ◌<◌, length, vec_items, sym, refl, ap, ◌∙◌, arith}
use Rattle.std.proofs.lemmas.List.{length-map}
use Rattle.model.specs.Parser.{ops_width, run_ops}
use Rattle.syntax.specs.View.{state_of}
use Rattle.machine.specs.View.{contents, selected, sizes_in, state_count}
use Rattle.machine.specs.declared.machine.Machine.{Machine}
use Rattle.machine.proofs.Facts.{state_read, sound_read}
use Rattle.machine.proofs.machine.Machine.walk.Goals as goal

known : (m : Machine) (q : ℕ) → q < state_count m → q < length (vec_items m.checked.parser.states)
known m q l = omega (arith, length-map (vec_items m.checked.parser.states) state_of)

pub perform-requires : goal.perform-requires
perform-requires c =
    let m : Machine = c.args.self.now in
    let l = known m c.args.q c.requires.known in
    record {
      sound = sound_read m.checked refl l c.index-state.ensures;
      bits = c.requires.bits;
      wide = c.requires.wide ∙ sym (ap (λ z. ops_width (sizes_in m) z.ops) (state_read (vec_items m.checked.parser.states) l c.index-state.ensures));
    }

pub select-requires : goal.select-requires
select-requires c = sound_read c.args.self.now.checked refl (known c.args.self.now c.args.q c.requires.known) c.index-state.ensures
