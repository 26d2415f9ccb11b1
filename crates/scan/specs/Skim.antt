-- Tags, and going over an expression without keeping it. Assumes nothing.
use Rattle.std.specs.Prelude.{ℕ, ◌-◌, Bool, ◌&&◌, cond, List, [], ◌∷◌, nat_lt}
use Rattle.model.specs.Parser.{Expr}
use Rattle.model.specs.Refusal.{shallow_expr}
use Rattle.format.specs.Read.{Read, got, failed, bind, read_number, read_row, read_tagged}

-- a tag below so many; any other fails where it stands
abbrev pub read_tag : ℕ → List ℕ → Read ℕ
read_tag kinds bs = bind (read_number 1 bs) (λ tag rest. cond (nat_lt tag kinds) (got tag rest) (failed bs))

-- what stands before the parts of an expression, and how many parts come: none of a header and of bits, one of a slice, two of a join
abbrev pub head_choices : List ℕ → List (Read ℕ)
head_choices bs =
    bind (read_number 2 bs) (λ h r. got 0 r)
    ∷ bind (read_row 2 bs) (λ b r. got 0 r)
    ∷ bind (read_number 2 bs) (λ lo r. bind (read_number 2 r) (λ hi r. got 1 r))
    ∷ got 2 bs
    ∷ []

abbrev pub read_head : List ℕ → Read ℕ
read_head = read_tagged head_choices

-- a part of an expression below which at most so many more may be
abbrev pub shallow_part : Expr → ℕ → Bool
shallow_part e depth = nat_lt 0 depth && shallow_expr e (depth - 1)
