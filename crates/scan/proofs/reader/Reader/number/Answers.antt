use Rattle.std.proofs.Common.{◌≡◌, ℕ, ◌+◌, ◌*◌, ◌^◌, ◌<◌, List, get_or, refl, ap, ◌∙◌, arith}
use Rattle.format.specs.Read.{big_endian}
use Rattle.scan.proofs.Chain.{then_took, took}
use Rattle.scan.proofs.Numbers.{more_digits, all_digits, digit_bound, number_small}
use Rattle.scan.proofs.reader.Reader.number.Goals as goal

pub overflow_mul-n : goal.overflow_mul-n
overflow_mul-n c =
    let i : ℕ = c.loop-digit.digit-index in
    let more : c.loop-digit.n * 256 + 0 < 256 ^ (i + 1) = digit_bound c.loop-digit.n i 0 c.loop-digit.invariant.1 (omega arith) in
    let small : c.loop-digit.n * 256 + 0 < 18446744073709551616 = number_small _ (i + 1) c.args.width (omega (arith, c.in_ok-digit-items.ensures.sized)) c.requires.narrow more in
    omega arith

pub overflow_add-n : goal.overflow_add-n
overflow_add-n c =
    let i : ℕ = c.loop-digit.digit-index in
    let d : ℕ = get_or c.in_ok-digit-items.digit-items.now i 0 in
    let more : c.loop-digit.n * 256 + d < 256 ^ (i + 1) = digit_bound c.loop-digit.n i d c.loop-digit.invariant.1 (omega arith) in
    let small : c.loop-digit.n * 256 + d < 18446744073709551616 = number_small _ (i + 1) c.args.width (omega (arith, c.in_ok-digit-items.ensures.sized)) c.requires.narrow more in
    omega arith
