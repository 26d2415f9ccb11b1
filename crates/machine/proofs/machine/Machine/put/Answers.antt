use Rattle.std.proofs.Common.{◌≡◌, ℕ, ltb, List, length, take, set, ap, ◌∙◌, arith}
use Rattle.std.proofs.lemmas.List.{length-take-le}
use Rattle.model.proofs.Every.{every_take}
use Rattle.machine.specs.View.{contents, sizes_in}
use Rattle.machine.proofs.Writes.{header_written}
use Rattle.machine.proofs.machine.Machine.put.Goals as goal

pub write-requires : goal.write-requires
write-requires c =
    let bs : List ℕ = c.args.bits.now in
    let n : ℕ = c.size.result in
    record { bits = every_take (λ b. ltb b 2) bs c.requires.bits n; room = omega (arith, length-take-le n bs (omega (arith, c.size.ensures))) }

pub returns : goal.returns
returns c =
    let bs : List ℕ = c.args.bits.now in
    let n : ℕ = c.size.result in
    let long : length (take n bs) ≡ n = length-take-le n bs (omega (arith, c.size.ensures)) in
    header_written (sizes_in c.args.self.now) c.args.h c.requires.known (long ∙ c.size.ensures) c.start.ensures.value (long ∙ c.size.ensures) c.write.ensures
    ∙ ap (λ m. set (contents c.args.self.now c.args.store.now) c.args.h (take m bs)) c.size.ensures
