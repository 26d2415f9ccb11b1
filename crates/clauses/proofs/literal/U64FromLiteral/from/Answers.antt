use Rattle.std.proofs.Common.{◌≡◌, ℕ, ◌+◌, ◌*◌, ◌%◌, ◌<◌, Bool, true, false, bit_or, ap, ◌∙◌, arith}
use mir.Val.{bool_byte}
use Rattle.std.proofs.lemmas.Nat.{or_shifted}
use Rattle.clauses.specs.Clauses.{bit}
use Rattle.clauses.proofs.literal.U64FromLiteral.from.Goals as goal

doubled : (p b : ℕ) → b < 2 → bit_or (p * 2 % 18446744073709551616) b ≡ 2 * p % 18446744073709551616 + b
doubled p b small =
    let e : p * 2 % 18446744073709551616 ≡ (p % 9223372036854775808) * 2 = omega arith in
    let f : 2 * p % 18446744073709551616 ≡ (p % 9223372036854775808) * 2 = omega arith in
    ap (λ x. bit_or x b) e ∙ or_shifted (p % 9223372036854775808) 1 b small ∙ omega (arith, f)

as_number : (p : ℕ) (b : Bool) → bit_or (p * 2 % 18446744073709551616) (bool_byte b) ≡ 2 * p % 18446744073709551616 + bit b
unfolding bit
as_number p true = doubled p 1 (omega arith)
as_number p false = doubled p 0 (omega arith)

pub returns : goal.returns
returns c = as_number c.args.l.position c.args.l.negated
