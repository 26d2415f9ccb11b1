use Rattle.std.proofs.Common.{◌≡◌, ℕ, ◌+◌, ◌/◌, ◌%◌, ◌<◌, cond, eqb, List, get_or, sym, ap, ◌∙◌, subst, arith}
use Rattle.rows.specs.Row.{bit_in}
use Rattle.machine.specs.Row.{part}
use Rattle.machine.specs.Window.{Written}
use Rattle.machine.proofs.Rows.{part_at}
use Rattle.machine.proofs.Small.{bit_told}
use Rattle.std.proofs.lemmas.Nat.Bits.{bit_at-lt}
use Rattle.machine.proofs.Writes.{write_more}
use Rattle.machine.proofs.store.Store.copy.Goals as goal

pub loop-i-preserved : goal.loop-i-preserved
loop-i-preserved c =
    let ws : List ℕ = c.args.other.now.words in
    let i : ℕ = c.loop-i.i in
    let j : ℕ = c.args.start + i in
    let within : i < c.args.n = omega arith in
    write_more c.loop-i.invariant
    (c.set.ensures.here ∙ ap (λ b. cond (eqb b 1) 1 0) c.get.ensures ∙ bit_told (bit_in ws j) (bit_at-lt (get_or ws (j / 64) 0) (j % 64)) ∙ sym (part_at (bit_in ws) c.args.start c.args.n i within))
    c.set.ensures.others
