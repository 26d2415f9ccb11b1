use Rattle.std.proofs.Common.{◌≡◌, ℕ, List, length, get_or, ◌∙◌, subst, arith}
use Rattle.rows.specs.Row.{bit_in}
use Rattle.machine.specs.Window.{Written}
use Rattle.machine.proofs.Small.{bit_told, bits_small}
use Rattle.machine.proofs.Writes.{write_more}
use Rattle.machine.proofs.store.Store.write.Goals as goal

pub loop-i-preserved : goal.loop-i-preserved
loop-i-preserved c =
    let bs : List ℕ = c.args.bits.now in
    write_more c.loop-i.invariant (c.set.ensures.here ∙ bit_told (get_or bs c.loop-i.i 0) (bits_small bs c.requires.bits c.loop-i.i)) c.set.ensures.others
