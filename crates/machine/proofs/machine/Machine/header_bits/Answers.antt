use Rattle.std.proofs.Common.{◌≡◌, ◌≤◌, ap, ◌∙◌, arith}
use Rattle.std.specs.List.{sum as sum_of}
use Rattle.model.specs.Refusal.{sum}
use Rattle.machine.specs.View.{parser_in, sizes_in}
use Rattle.machine.specs.declared.machine.Machine.{Machine}
use Rattle.machine.proofs.Facts.{right_from}
use Rattle.machine.proofs.Measuring.{sum_is}
use Rattle.machine.proofs.machine.Machine.header_bits.Goals as goal

room : (m : Machine) → sum (sizes_in m) ≤ 4096
room m = (right_from (parser_in m) m.checked.right).room

pub total-requires : goal.total-requires
total-requires c = omega (arith, ap sum_of c.deref.ensures.value, sum_is (sizes_in c.args.self.now), room c.args.self.now)

pub returns : goal.returns
returns c =
    let all : c.total.result ≡ sum (sizes_in c.args.self.now) = c.total.ensures ∙ ap sum_of c.deref.ensures.value ∙ sum_is (sizes_in c.args.self.now) in
    record { value = all; few = omega (arith, all, room c.args.self.now) }
