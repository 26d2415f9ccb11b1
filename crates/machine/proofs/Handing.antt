-- What is wanted of a row, in one piece or in two, and what a sink makes of it. Assumes nothing.
use Rattle.std.proofs.Common.{◌≡◌, ℕ, ◌+◌, ◌-◌, min, true, List, [], ◌++◌, length, get_or, take, append-nil, Some, None, Option, MatchOption, Box, sym, refl, ap, ◌∙◌, subst, ap₂, arith}
use Rattle.std.specs.declared.alloc.Global.{Global}
use Rattle.std.proofs.lemmas.List.{length-append, nil_from_length, take_all}
use Rattle.model.specs.Parser.{value}
use Rattle.model.specs.Refusal.{named_expr}
use Rattle.syntax.specs.View.{expr_of}
use Rattle.syntax.specs.declared.ast.Expr.{Expr, Slice}
use Rattle.syntax.specs.declared.ast.Expr.TheVariants.{Header}
use Rattle.machine.specs.Ready.{starts_from}
use Rattle.machine.specs.Row.{headers, part}
use Rattle.machine.specs.Sound.{Proper}
use Rattle.machine.specs.Window.{window, Written, Wrote}
use Rattle.machine.specs.Sink.{SinkLaws, Left, wanted, Poured}
use Rattle.machine.specs.declared.want.Want.{Want}
use Rattle.machine.proofs.Exprs.{header_long, header_part, slice_long, slice_part}
use Rattle.machine.proofs.Windows.{inside, left_over, used, window_is, window_join}

-- f of v are passed over, and the next n used
pub piece_left : (v : List ℕ) (w x : Want) {size f n : ℕ} → length v ≡ size → f ≡ min w.skip size → n ≡ min w.most (size - f) → x.skip ≡ w.skip - f → x.most ≡ w.most - n → Left v w x
piece_left v w x long f_is n_is skip most =
    record { skip = skip ∙ left_over v w.skip w.most long f_is n_is; most = most ∙ ap (λ j. w.most - j) (used v w.skip w.most long f_is n_is) }

-- what is wanted of a header
pub header_wanted : (ns : List ℕ) (row : ℕ → ℕ) {e : Expr} {h start size : ℕ} → e ≡ Header h → named_expr ns (expr_of e) ≡ true → start ≡ get_or (starts_from 0 ns) h 0 → size ≡ get_or ns h 0
    → (w : Want) {f n : ℕ} → f ≡ min w.skip size → n ≡ min w.most (size - f) → wanted (value (headers row 0 ns) (expr_of e)) w ≡ part row (start + f) n
header_wanted ns row {e} is named start_is size_is w {f} {n} f_is n_is =
    let v : List ℕ = value (headers row 0 ns) (expr_of e) in
    let long = header_long ns row is named start_is size_is in
    window_is v w.skip w.most long f_is n_is ∙ header_part ns row is named start_is size_is f n (inside v w.skip w.most long f_is n_is)

-- and of a slice
pub slice_wanted : (ns : List ℕ) (row : ℕ → ℕ) {e inner : Expr} {b : Box Expr Global} {lo hi : ℕ} → e ≡ Slice b lo hi → inner ≡ b.value → Proper ns (expr_of e)
    → (w : Want) {f n : ℕ} → f ≡ min w.skip (hi + 1 - lo) → n ≡ min w.most (hi + 1 - lo - f) → wanted (value (headers row 0 ns) (expr_of e)) w ≡ window (value (headers row 0 ns) (expr_of inner)) (lo + f) n
slice_wanted ns row {e} is same ok w {f} {n} f_is n_is =
    let v : List ℕ = value (headers row 0 ns) (expr_of e) in
    let long = slice_long ns row is same ok.named ok.sized in
    window_is v w.skip w.most long f_is n_is ∙ slice_part ns row is same ok.named ok.sized f n (inside v w.skip w.most long f_is n_is)

-- of a, and then of b
module _ (a b : List ℕ) (w : Want) where
  front : wanted (a ++ b) w ≡ wanted a w ++ window b (w.skip - length a) (w.most - length (wanted a w))
  front = window_join a b w.skip w.most (length (wanted a w)) refl

  both : {x : Want} → Left a w x → wanted (a ++ b) w ≡ wanted a w ++ wanted b x
  both {x} left = front ∙ ap₂ (λ i j. wanted a w ++ window b i j) (sym left.skip) (sym left.most)

  left_both : {x y : Want} → Left a w x → Left b x y → Left (a ++ b) w y
  left_both {x} {y} left more =
      record {
        skip = omega (arith, left.skip, more.skip, length-append a b);
        most = omega (arith, left.most, more.most, length-append (wanted a w) (wanted b x), ap length (both left));
      }

  module _ {S : Type 0} {source : S → ℕ → ℕ} {places : S → ℕ} {Fits : S → ℕ → Type 0} {Took : S → S → List ℕ → Type 0} {Refuses : S → List ℕ → Type 0} (laws : SinkLaws source places Fits Took Refuses) where
    pub first_refused : (s : S) → Refuses s (wanted a w) → Refuses s (wanted (a ++ b) w)
    first_refused s refused = subst (Refuses s) (sym front) (laws.refuses_first s _ _ refused)

    pub then_poured : (s t u : S) {x : Want} (y : Want) (r : Option (Unit {0})) → Left a w x → Took s t (wanted a w) → Poured Took Refuses b x y t u r → Poured Took Refuses (a ++ b) w y s u r
    then_poured s t u y None left took refused = subst (Refuses s) (sym (both left)) (laws.refuses_second s t _ _ took refused)
    then_poured s t u y (Some _) left took more = (left_both left more.0, subst (Took s u) (sym (both left)) (laws.joins s t u _ _ took more.1))

-- bits that a row as long was held to
pub held_whole : (v bs rest : List ℕ) {w : Want} → length v ≡ length bs → w.skip ≡ 0 → w.most ≡ length bs → bs ≡ wanted v w ++ rest → v ≡ bs
held_whole v bs rest {w} long skip most held =
    let whole : wanted v w ≡ v = ap₂ (window v) skip most ∙ take_all (length bs) v (omega arith) in
    let none : rest ≡ [] = nil_from_length rest (omega (arith, ap length held, length-append (wanted v w) rest, ap length whole)) in
    sym (held ∙ ap₂ ◌++◌ whole none ∙ append-nil v)

pub apart_whole : (v bs : List ℕ) {w : Want} → length v ≡ length bs → w.skip ≡ 0 → w.most ≡ length bs → (take (length (wanted v w)) bs ≡ wanted v w → ⊥) → v ≡ bs → ⊥
apart_whole v bs {w} long skip most apart same =
    let whole : wanted v w ≡ v = ap₂ (window v) skip most ∙ take_all (length bs) v (omega arith) in
    apart (ap (λ xs. take (length xs) bs) whole ∙ ap (λ j. take j bs) long ∙ take_all (length bs) bs (omega arith) ∙ sym same ∙ sym whole)

-- a row that is written whole
pub wrote_whole : {f g : ℕ → ℕ} {at to : ℕ} (v : List ℕ) {w : Want} {n : ℕ} → length v ≡ n → w.skip ≡ 0 → w.most ≡ n → Wrote f g at to (wanted v w) → Written f g v at n
wrote_whole {f} {g} {at} v {w} {n} long skip most wrote =
    let whole : wanted v w ≡ v = ap₂ (window v) skip most ∙ take_all n v (omega arith) in
    subst (Written f g v at) long (subst (λ xs. Written f g xs at (length xs)) whole wrote.wrote)

-- a sink that refuses nothing took all that was wanted
pub taken : (T : Type 0) (v : List ℕ) (w : Want) (r : Option Want) → MatchOption r ⊥ (λ x. Left v w x × T) → T
taken T v w None refused = absurd refused
taken T v w (Some x) handed = handed.1
