use Rattle.std.proofs.Common.{◌≡◌, ℕ, suc, ◌+◌, ◌/◌, ◌^◌, List, [], ◌∷◌, ◌++◌, ap, ◌∙◌, sym, arith}
use lib.Bits.{bit_and}
use Rattle.std.proofs.lemmas.Nat.{and_mask}
use Rattle.std.proofs.lemmas.List.{take_more_set}
use Rattle.theory.specs.Number.{number_bits}
use Rattle.product.proofs.BitNumbers.{number_bits_more}
use Rattle.product.proofs.bits.spread.Goals as goal

-- one bit more is laid
pub loop-i-preserved : goal.loop-i-preserved
loop-i-preserved c =
    let part : List ℕ = c.loop-i.bit-items in
    let i : ℕ = c.loop-i.i in
    let bit : ℕ = bit_and (c.args.bits / 2 ^ i) 1 in
    let next : suc i ≡ i + 1 = omega arith in
    take_more_set part i bit (omega (arith, c.loop-i-test.true, c.loop-i.auto.bit-items)) ∙ ap (λ xs. xs ++ bit ∷ []) c.loop-i.invariant
    ∙ ap (λ b. number_bits i c.args.bits ++ b ∷ []) (and_mask (c.args.bits / 2 ^ i) 1)
    ∙ sym (number_bits_more i c.args.bits) ∙ ap (λ n. number_bits n c.args.bits) next
