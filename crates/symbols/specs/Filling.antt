-- The laws of a row that symbols are written into. Assumes nothing.
use Rattle.std.proofs.Common.{◌≡◌, ◌+◌, ◌≤◌, length, ap, ◌∙◌, arith}
use Rattle.machine.specs.Sink.{SinkLaws}
use Rattle.machine.specs.Sinks.{wrote_joins}
use Rattle.machine.specs.Window.{Wrote}
use Rattle.symbols.specs.View.{in_row}
use Rattle.symbols.specs.declared.eval.Filling.{Filling}

pub filling_laws : SinkLaws {S = Filling} (λ s. in_row s.heads.now) (λ s. length s.heads.now) (λ s n. s.at + n ≤ length s.out.now)
    (λ s t xs. (t.heads.now ≡ s.heads.now) × (t.out.ghost_name ≡ s.out.ghost_name) × (length t.out.now ≡ length s.out.now) × Wrote (in_row s.out.now) (in_row t.out.now) s.at t.at xs)
    (λ s xs. ⊥)
filling_laws =
    record {
      same_row = λ s t xs took. ap in_row took.0;
      same_places = λ s t xs took. ap length took.0;
      fits_fewer = λ s m n l fits. omega arith;
      fits_behind = λ s t xs n took fits. omega (arith, took.2, took.3.on);
      joins = λ s t u xs ys first second. (second.0 ∙ first.0, second.1 ∙ first.1, second.2 ∙ first.2, wrote_joins xs ys first.3 second.3);
      refuses_first = λ s xs ys refused. refused;
      refuses_second = λ s t xs ys took refused. refused;
    }
