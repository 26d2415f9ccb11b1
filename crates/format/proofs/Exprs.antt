-- Reading an expression is one step of it, whose parts are read as expressions: as many steps as there are bytes are enough.
use Rattle.std.proofs.Common.{◌≡◌, ℕ, zero, suc, ◌+◌, ◌*◌, ◌≤◌, Bool, cond, leb, List, [], ◌∷◌, length, get_or, take, drop, sym, refl, ap, ◌∙◌, ap₂, arith}
use Rattle.std.proofs.lemmas.List.{length-drop}
use Rattle.std.proofs.lemmas.Bool.{le-leb, cond_both}
use Rattle.model.specs.Parser.{Expr, header, bits, slice, join}
use Rattle.format.specs.Read.{Read, got, failed, bind, read_bytes, big_endian, read_number, read_tagged, read_row}
use Rattle.format.specs.Format.{read_expr_by, read_expr_within, read_expr}

-- what was got leaves at most so many bytes
abbrev pub Leaves : {X : Type 0} → ℕ → Read X → Type 0
Leaves n (got x rest) = length rest ≤ n
Leaves n (failed rest) = Unit

-- each of a list
abbrev All : {X : Type 0} → (X → Type 0) → List X → Type 0
All p [] = Unit
All p (x ∷ xs) = p x × All p xs

leaves_fewer : {X : Type 0} (m n : ℕ) (x : Read X) → m ≤ n → Leaves m x → Leaves n x
leaves_fewer m n (got x rest) l h = omega arith
leaves_fewer m n (failed rest) l h = tt

leaves_bind : {X Y : Type 0} (n : ℕ) (x : Read X) (f : X → List ℕ → Read Y) → Leaves n x → ((y : X) (rest : List ℕ) → length rest ≤ n → Leaves n (f y rest)) → Leaves n (bind x f)
leaves_bind n (got x rest) f h next = next x rest h
leaves_bind n (failed rest) f h next = tt

leaves_bytes : (n k : ℕ) (bs : List ℕ) → length bs ≤ n → Leaves n (read_bytes k bs)
leaves_bytes n k bs l =
    cond_both (leb k (length bs)) (got (take k bs) (drop k bs)) (failed []) (λ (x : Read (List ℕ)). Leaves n x) (λ e. omega (arith, length-drop k bs)) (λ e. tt)

leaves_number : (n k : ℕ) (bs : List ℕ) → length bs ≤ n → Leaves n (read_number k bs)
leaves_number n k bs l = leaves_bind n (read_bytes k bs) (λ ds rest. got (big_endian 0 ds) rest) (leaves_bytes n k bs l) (λ ds rest h. h)

leaves_row : (n k : ℕ) (bs : List ℕ) → length bs ≤ n → Leaves n (read_row k bs)
leaves_row n k bs l = leaves_bind n (read_number k bs) (λ m r. read_bytes m r) (leaves_number n k bs l) (λ m r h. leaves_bytes n m r h)

-- one thing and then another are the same, if what comes next is the same on what is left
bind_same : {X Y : Type 0} (n : ℕ) (x : Read X) (f g : X → List ℕ → Read Y) → Leaves n x → ((y : X) (rest : List ℕ) → length rest ≤ n → f y rest ≡ g y rest) → bind x f ≡ bind x g
bind_same n (got x rest) f g h next = next x rest h
bind_same n (failed rest) f g h next = refl

pub read_byte : (b : ℕ) (r : List ℕ) → read_number 1 (b ∷ r) ≡ got b r
read_byte b r =
    let e : 0 * 256 + b ≡ b = omega arith in
    ap (λ (t : Bool). bind (cond t (got (b ∷ []) r) (failed [])) (λ ds rest. got (big_endian 0 ds) rest)) (le-leb 1 (suc (length r)) (omega arith)) ∙ ap (λ n. got n r) e

-- a tag picks what it stands for
pub read_tag : {X : Type 0} (choices : List ℕ → List (Read X)) (b : ℕ) (r : List ℕ) → read_tagged choices (b ∷ r) ≡ get_or (choices r) b (failed (b ∷ r))
read_tag choices b r = ap (λ x. bind x (λ tag rest. get_or (choices rest) tag (failed (b ∷ r)))) (read_byte b r)

-- what may stand after each tag of an expression
abbrev as_slice : (List ℕ → Read Expr) → List ℕ → Read Expr
as_slice self bs = bind (read_number 2 bs) (λ lo r. bind (read_number 2 r) (λ hi r. bind (self r) (λ e r. got (slice e lo hi) r)))

abbrev as_join : (List ℕ → Read Expr) → List ℕ → Read Expr
as_join self bs = bind (self bs) (λ d r. bind (self r) (λ e r. got (join d e) r))

abbrev parts : (List ℕ → Read Expr) → List ℕ → List (Read Expr)
parts self bs = bind (read_number 2 bs) (λ h r. got (header h) r) ∷ bind (read_row 2 bs) (λ b r. got (bits b) r) ∷ as_slice self bs ∷ as_join self bs ∷ []

leaves_part : {X : Type 0} (n : ℕ) (d : Read X) → Leaves n d → (xs : List (Read X)) → All (Leaves n) xs → (k : ℕ) → Leaves n (get_or xs k d)
leaves_part n d h [] all k = h
leaves_part n d h (x ∷ xs) all zero = all.0
leaves_part n d h (x ∷ xs) all (suc k) = leaves_part n d h xs all.1 k

-- if parts leave no more than there was, so does the whole, and even fewer
leaves_by : (self : List ℕ → Read Expr) → ((n : ℕ) (bs : List ℕ) → length bs ≤ n → Leaves n (self bs)) → (b : ℕ) (r : List ℕ) → Leaves (length r) (read_expr_by self (b ∷ r))
leaves_by self fewer b r =
    let n : ℕ = length r in
    let l : length r ≤ n = omega arith in
    rw (read_tag (parts self) b r)
    (leaves_part n (failed (b ∷ r)) tt (parts self r) (
      leaves_bind n _ _ (leaves_number n 2 r l) (λ m s h. h),
      (
        leaves_bind n _ _ (leaves_row n 2 r l) (λ m s h. h),
        (
          leaves_bind n _ _ (leaves_number n 2 r l) (λ lo s h. leaves_bind n _ _ (leaves_number n 2 s h) (λ hi t k. leaves_bind n _ _ (fewer n t k) (λ e u z. z))),
          (leaves_bind n _ _ (fewer n r l) (λ d s h. leaves_bind n _ _ (fewer n s h) (λ e t z. z)), tt),
        ),
      ),
    ) b)

leaves_within : (k n : ℕ) (bs : List ℕ) → length bs ≤ n → Leaves n (read_expr_within k bs)
unfolding read_expr_within
leaves_within zero n bs l = tt
leaves_within (suc k) n [] l = tt
leaves_within (suc k) n (b ∷ r) l = leaves_fewer (length r) n (read_expr_by (read_expr_within k) (b ∷ r)) (omega arith) (leaves_by (read_expr_within k) (leaves_within k) b r)

-- if parts are read the same, so is the whole
by_same : (f g : List ℕ → Read Expr) (b : ℕ) (r : List ℕ) → ((bs : List ℕ) → length bs ≤ length r → f bs ≡ g bs) → ((n : ℕ) (bs : List ℕ) → length bs ≤ n → Leaves n (f bs))
    → read_expr_by f (b ∷ r) ≡ read_expr_by g (b ∷ r)
by_same f g b r same fewer =
    let n : ℕ = length r in
    let l : length r ≤ n = omega arith in
    let slices : as_slice f r ≡ as_slice g r =
    bind_same n _ _ _ (leaves_number n 2 r l) (λ lo s h. bind_same n _ _ _ (leaves_number n 2 s h) (λ hi t k. ap (λ x. bind x (λ e r. got (slice e lo hi) r)) (same t k))) in
    let joins : as_join f r ≡ as_join g r =
    bind_same n _ _ _ (fewer n r l) (λ d s h. ap (λ x. bind x (λ e r. got (join d e) r)) (same s h))
    ∙ ap (λ x. bind x (λ d r. bind (g r) (λ e r. got (join d e) r))) (same r l) in
    read_tag (parts f) b r
    ∙ ap₂ (λ x y. get_or (bind (read_number 2 r) (λ h r. got (header h) r) ∷ bind (read_row 2 r) (λ b r. got (bits b) r) ∷ x ∷ y ∷ []) b (failed (b ∷ r))) slices joins
    ∙ sym (read_tag (parts g) b r)

-- any number of steps that is at least as many as there are bytes gives the same
pub within_enough : (m n : ℕ) (bs : List ℕ) → length bs ≤ m → length bs ≤ n → read_expr_within m bs ≡ read_expr_within n bs
unfolding read_expr_within
within_enough zero zero bs k l = refl
within_enough zero (suc n) [] k l = refl
within_enough zero (suc n) (b ∷ r) k l = absurd (omega arith)
within_enough (suc m) zero [] k l = refl
within_enough (suc m) zero (b ∷ r) k l = absurd (omega arith)
within_enough (suc m) (suc n) [] k l = refl
within_enough (suc m) (suc n) (b ∷ r) k l =
    by_same (read_expr_within m) (read_expr_within n) b r (λ bs h. within_enough m n bs (omega arith) (omega arith)) (leaves_within m)

pub read_expr-step : (bs : List ℕ) → read_expr bs ≡ read_expr_by read_expr bs
unfolding read_expr read_expr_within
read_expr-step [] = refl
read_expr-step (b ∷ r) = by_same (read_expr_within (length r)) read_expr b r (λ bs h. within_enough (length r) (length bs) bs h (omega arith)) (leaves_within (length r))
