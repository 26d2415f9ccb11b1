-- The loops that work out where headers begin and how many bits states take. Assumes nothing.
use Rattle.std.proofs.Common.{◌≡◌, ℕ, suc, ◌+◌, ◌<◌, ◌≤◌, true, List, [], ◌∷◌, ◌++◌, map, length, get_or, drop, sym, refl, ap, ◌∙◌, add-zero, arith}
use Rattle.std.proofs.lemmas.List.{append_assoc, append-nil, at_drop_more, at_drop_all, drop_all}
use Rattle.std.proofs.lemmas.Bool.{ltb-true}
use Rattle.model.specs.Parser.{ops_width}
use Rattle.model.specs.Refusal.{every, named_op, sum}
use Rattle.syntax.specs.View.{op_of}
use Rattle.syntax.specs.declared.ast.Expr.{Expr}
use Rattle.syntax.specs.declared.ast.Op.{Op}
use Rattle.syntax.specs.declared.ast.Op.TheVariants.{Extract, Assign}
use Rattle.machine.specs.Ready.{starts_from}
use Rattle.model.proofs.Every.{drop_read, every_read}

pub length_starts : (k : ℕ) (ns : List ℕ) → length (starts_from k ns) ≡ length ns
length_starts k [] = refl
length_starts k (n ∷ ns) = ap suc (length_starts (k + n) ns)

-- the starts of the first i headers are there, and the next begins at `next`
pub record Laid (starts : List ℕ) (sizes : List ℕ) (next i : ℕ) : Type 0 where
  pub same : starts ++ starts_from next (drop i sizes) ≡ starts_from 0 sizes
  pub left : next + sum (drop i sizes) ≡ sum sizes

module _ {starts sizes : List ℕ} {next i : ℕ} (laid : Laid starts sizes next i) where
  module _ (l : i < length sizes) where
    pub laid_left : next + (get_or sizes i 0 + sum (drop (i + 1) sizes)) ≡ sum sizes
    laid_left = sym (ap (λ n. next + n) (at_drop_more sum sizes i 0 l)) ∙ laid.left

    pub laid_more : {more : List ℕ} → more ≡ starts ++ next ∷ [] → Laid more sizes (next + get_or sizes i 0) (i + 1)
    laid_more {more} pushed =
        let rest : List ℕ = starts_from (next + get_or sizes i 0) (drop (i + 1) sizes) in
        record {
          same = ap (λ ys. ys ++ rest) pushed ∙ append_assoc starts (next ∷ []) rest ∙ sym (ap (λ ys. starts ++ ys) (at_drop_more (starts_from next) sizes i 0 l)) ∙ laid.same;
          left = omega (arith, laid_left);
        }

  pub laid_all : length sizes ≤ i → starts ≡ starts_from 0 sizes
  laid_all l = sym (append-nil starts) ∙ sym (ap (λ ys. starts ++ ys) (at_drop_all (starts_from next) sizes i l)) ∙ laid.same

-- ys is made of the first i of xs, element by element
pub record Made {X Y : Type 0} (f : X → Y) (ys : List Y) (xs : List X) (i : ℕ) : Type 0 where
  pub same : ys ++ map f (drop i xs) ≡ map f xs

module _ {X Y : Type 0} {f : X → Y} {ys : List Y} {xs : List X} {i : ℕ} (made : Made f ys xs i) where
  pub made_more : {x : X} {more : List Y} {y : Y} → i < length xs → x ≡ get_or xs i x → more ≡ ys ++ y ∷ [] → y ≡ f x → Made f more xs (i + 1)
  made_more {x} {more} {y} l read pushed is =
      record {
        same =
            ap (λ zs. zs ++ map f (drop (i + 1) xs)) pushed ∙ append_assoc ys (y ∷ []) (map f (drop (i + 1) xs)) ∙ ap (λ z. ys ++ z ∷ map f (drop (i + 1) xs)) is
            ∙ sym (ap (λ zs. ys ++ map f zs) (drop_read xs i x l read)) ∙ made.same;
      }

  pub made_all : length xs ≤ i → ys ≡ map f xs
  made_all l = sym (append-nil ys) ∙ sym (ap (λ zs. ys ++ map f zs) (drop_all i xs l)) ∙ made.same

-- what the first i ops take is counted
pub record Counted (ns : List ℕ) (ops : List Op) (i total : ℕ) : Type 0 where
  pub same : total + ops_width ns (map op_of (drop i ops)) ≡ ops_width ns (map op_of ops)

pub extract_known : (ns : List ℕ) (ops : List Op) → every (named_op ns) (map op_of ops) ≡ true → {i h : ℕ} {op : Op} → i < length ops → op ≡ get_or ops i op → op ≡ Extract h → h < length ns
extract_known ns ops named {i} {h} {op} l read is =
    ltb-true h (length ns) (sym (ap (λ o. named_op ns (op_of o)) is) ∙ every_read (named_op ns) op_of ops named i l read)

module _ (ns : List ℕ) {ops : List Op} {i total : ℕ} (counted : Counted ns ops i total) where
  module _ {op : Op} (l : i < length ops) (read : op ≡ get_or ops i op) where
    at_op : {o : Op} → op ≡ o → total + ops_width ns (op_of o ∷ map op_of (drop (i + 1) ops)) ≡ ops_width ns (map op_of ops)
    at_op is = sym (ap (λ os. total + ops_width ns (map op_of os)) (drop_read ops i op l read ∙ ap (λ o. o ∷ drop (i + 1) ops) is)) ∙ counted.same

    pub counted_room : {h : ℕ} → op ≡ Extract h → total + get_or ns h 0 ≤ ops_width ns (map op_of ops)
    counted_room {h} is =
        let e : total + (get_or ns h 0 + ops_width ns (map op_of (drop (i + 1) ops))) ≡ ops_width ns (map op_of ops) = at_op is in
        omega arith

    pub counted_extract : {h to : ℕ} → op ≡ Extract h → to ≡ total + get_or ns h 0 → Counted ns ops (i + 1) to
    counted_extract {h} {to} is more =
        let e : total + (get_or ns h 0 + ops_width ns (map op_of (drop (i + 1) ops))) ≡ ops_width ns (map op_of ops) = at_op is in
        record { same = omega arith }

    pub counted_assign : {h to : ℕ} {e : Expr} → op ≡ Assign h e → to ≡ total → Counted ns ops (i + 1) to
    counted_assign is stays = record { same = ap (λ n. n + ops_width ns (map op_of (drop (i + 1) ops))) stays ∙ at_op is }

  pub counted_all : length ops ≤ i → total ≡ ops_width ns (map op_of ops)
  counted_all l = sym (ap (λ os. total + ops_width ns (map op_of os)) (drop_all i ops l) ∙ add-zero total) ∙ counted.same
