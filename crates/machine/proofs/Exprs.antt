-- What the value of an expression is made of, variant by variant. Assumes nothing.
use Rattle.std.proofs.Common.{◌≡◌, ℕ, suc, ◌+◌, ◌-◌, ◌<◌, ◌≤◌, true, ltb, List, ◌++◌, length, get_or, take, drop, vec_items, Vec, Box, sym, ap, ◌∙◌, subst, ap₂, arith}
use Rattle.std.specs.declared.alloc.Global.{Global}
use Rattle.std.proofs.lemmas.Bool.{ltb-true, and_parts}
use Rattle.model.specs.Parser.{Store, value}
use Rattle.model.specs.Refusal.{are_bits, expr_width, named_expr, sized_expr, sum}
use Rattle.model.proofs.Every.{every_drop, every_take}
use Rattle.syntax.specs.View.{expr_of}
use Rattle.syntax.specs.declared.ast.Expr.{Expr, Slice, Join}
use Rattle.syntax.specs.declared.ast.Expr.TheVariants.{Header, Bits}
use Rattle.machine.specs.Row.{headers, part}
use Rattle.machine.specs.Ready.{starts_from}
use Rattle.machine.specs.Window.{window}
use Rattle.machine.proofs.Rows.{sizes_kept, header_at, length_part, start_room}
use Rattle.machine.proofs.Values.{value_long}
use Rattle.machine.proofs.Windows.{window-part, window_slice}

module _ (ns : List ℕ) (row : ℕ → ℕ) {e : Expr} {h start size : ℕ} (is : e ≡ Header h) (named : named_expr ns (expr_of e) ≡ true)
    (start_is : start ≡ get_or (starts_from 0 ns) h 0) (size_is : size ≡ get_or ns h 0) where
  header_row : value (headers row 0 ns) (expr_of e) ≡ part row start size
  header_row =
      let known : h < length ns = ltb-true h (length ns) (subst (λ e. named_expr ns (expr_of e) ≡ true) is named) in
      ap (λ e. value (headers row 0 ns) (expr_of e)) is ∙ header_at row 0 ns h known ∙ ap₂ (part row) (sym start_is) (sym size_is)

  pub header_long : length (value (headers row 0 ns) (expr_of e)) ≡ size
  header_long = ap length header_row ∙ length_part row start size

  pub header_part : (f n : ℕ) → f + n ≤ size → take n (drop f (value (headers row 0 ns) (expr_of e))) ≡ part row (start + f) n
  header_part f n l = ap (λ x. take n (drop f x)) header_row ∙ window-part row start size f n l

  pub header_room : (f n most : ℕ) → f + n ≤ size → sum ns ≤ most → start + f + n ≤ most
  header_room f n most l room =
      let known : h < length ns = ltb-true h (length ns) (subst (λ e. named_expr ns (expr_of e) ≡ true) is named) in
      omega (arith, start_room 0 ns h known)

module _ (s : Store) {e : Expr} {constant : Vec ℕ Global} {row : List ℕ} (is : e ≡ Bits constant) (row_is : row ≡ vec_items constant) where
  pub bits_small : (ns : List ℕ) → sized_expr ns (expr_of e) ≡ true → (f n : ℕ) → are_bits (take n (drop f row)) ≡ true
  bits_small ns sized f n =
      let all : are_bits row ≡ true = ap are_bits row_is ∙ (and_parts _ _ (subst (λ e. sized_expr ns (expr_of e) ≡ true) is sized)).0 in
      every_take (λ b. ltb b 2) (drop f row) (every_drop (λ b. ltb b 2) row all f) n

module _ (ns : List ℕ) (row : ℕ → ℕ) {e inner : Expr} {b : Box Expr Global} {lo hi : ℕ} (is : e ≡ Slice b lo hi) (same : inner ≡ b.value)
    (named : named_expr ns (expr_of e) ≡ true) (sized : sized_expr ns (expr_of e) ≡ true) where
  pub slice_long : length (value (headers row 0 ns) (expr_of e)) ≡ hi + 1 - lo
  slice_long =
      let w : suc hi - lo ≡ hi + 1 - lo = omega arith in
      value_long (headers row 0 ns) ns (sizes_kept row 0 ns) (expr_of e) named sized ∙ ap (λ e. expr_width ns (expr_of e)) is ∙ w

  pub slice_part : (f n : ℕ) → f + n ≤ hi + 1 - lo → take n (drop f (value (headers row 0 ns) (expr_of e))) ≡ window (value (headers row 0 ns) (expr_of inner)) (lo + f) n
  slice_part f n l =
      ap (λ x. take n (drop f (value (headers row 0 ns) (expr_of x)))) is ∙ window_slice (value (headers row 0 ns) (expr_of b.value)) lo hi f n (omega arith)
      ∙ sym (ap (λ x. window (value (headers row 0 ns) (expr_of x)) (lo + f) n) same)

pub join_row : (s : Store) {e x y : Expr} {a b : Box Expr Global} → e ≡ Join a b → x ≡ a.value → y ≡ b.value → value s (expr_of x) ++ value s (expr_of y) ≡ value s (expr_of e)
join_row s is p q = ap₂ (λ x y. value s (expr_of x) ++ value s (expr_of y)) p q ∙ sym (ap (λ e. value s (expr_of e)) is)
