use Rattle.std.proofs.Common.{◌≡◌, ℕ, ◌*◌, ◌/◌, ◌^◌, ◌<◌, refl, subst, ap₂, arith}
use Rattle.model.specs.Promise.{config_count}
use Rattle.machine.specs.View.{parser_in}
use Rattle.product.specs.declared.side.Side.{Side}
use Rattle.product.proofs.Exponents.{count_some, first_factor, second_factor}
use Rattle.product.proofs.Joining.{product_above}
use Rattle.product.proofs.product.Product.new.Goals as goal

abbrev count : Side → ℕ
count s = config_count (parser_in s.machine)

some : (s : Side) {d : ℕ} → d ≡ count s → 0 < d
some s is = omega (arith, is, count_some (parser_in s.machine))

pub returns-in_default : goal.returns-in_default
returns-in_default c = (
  refl,
  refl,
  omega (arith, c.in_default.ensures, first_factor (count c.args.first) (count c.args.second) (count_some (parser_in c.args.second.machine))),
)

pub returns-in_default-count : goal.returns-in_default-count
returns-in_default-count c = (
  refl,
  refl,
  omega (arith, c.in_default-count.ensures, second_factor (count c.args.first) (count c.args.second) (count_some (parser_in c.args.first.machine))),
)

-- the counts that the code has, against the limit
module _ (a b : Side) {f d : ℕ} (f_is : f ≡ count a) (d_is : d ≡ count b) where
  above : 2 ^ 60 / d < f → 2 ^ 60 < count a * count b
  above l = subst (λ n. 2 ^ 60 < n) (ap₂ (λ x y. x * y) f_is d_is) (product_above f d (2 ^ 60) (some b d_is) l)

pub returns-then-first_count-second_count : goal.returns-then-first_count-second_count
returns-then-first_count-second_count c =
    (refl, refl, above c.args.first c.args.second c.in-Some.ensures.0 c.in-Some-count.ensures.0 c.if-first_count-second_count.true)
