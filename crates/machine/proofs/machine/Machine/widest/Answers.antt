use Rattle.std.proofs.Common.{◌≡◌, max, ap, ◌∙◌, arith}
use Rattle.std.specs.List.{fold}
use Rattle.model.specs.Refusal.{widest}
use Rattle.machine.specs.View.{parser_in, sizes_in}
use Rattle.machine.proofs.Facts.{right_from}
use Rattle.machine.proofs.Measuring.{widest_is}
use Rattle.machine.proofs.machine.Machine.widest.Goals as goal

pub returns : goal.returns
returns c =
    let m = c.args.self.now in
    let all : c.greatest.result ≡ widest (sizes_in m) (parser_in m).states = c.greatest.ensures ∙ ap (fold max 0) (c.deref.ensures.value ∙ m.counted) ∙ widest_is (sizes_in m) (parser_in m).states in
    record { value = all; few = omega (arith, all, (right_from (parser_in m) m.checked.right).narrow) }
