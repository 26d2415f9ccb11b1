-- An expression goes over as its head and then its parts.
use Rattle.std.proofs.Common.{◌≡◌, ℕ, zero, suc, ◌+◌, ◌≤◌, List, ◌∷◌, length, get_or, drop, sym, refl, ap, ◌∙◌, suc-add, zero-add, subst, arith}
use Rattle.model.specs.Parser.{Expr, header, bits, slice, join}
use Rattle.format.specs.Read.{Read, got, failed, bind, read_number, read_row, read_many}
use Rattle.format.specs.Format.{read_expr, expr_choices}
use Rattle.format.proofs.Exprs.{read_expr-step}
use Rattle.scan.specs.Reads.{Place, left, Took, Stopped, Failed, ceased, no_memory, Is}
use Rattle.scan.specs.Skim.{read_head, head_choices}
use Rattle.scan.specs.declared.fault.Fault.{Fault}

-- what is left after a thing, whatever it was
unfoldable pub past : {X : Type 0} → Read X → Read (Unit {0})
past (got x r) = got tt r
past (failed r) = failed r

abbrev rest_of : ℕ → List ℕ → Read (Unit {0})
rest_of n r = past (read_many read_expr n r)

past_map : {X Y : Type 0} (f : X → Y) (s : Read X) → past (bind s (λ x r. got (f x) r)) ≡ past s
unfolding past
past_map f (got x r) = refl
past_map f (failed r) = refl

bind_assoc : {X Y Z : Type 0} (s : Read X) (f : X → List ℕ → Read Y) (g : Y → List ℕ → Read Z) → bind (bind s f) g ≡ bind s (λ x r. bind (f x r) g)
bind_assoc (got x r) f g = refl
bind_assoc (failed r) f g = refl

-- continuations that agree everywhere
bind_same : {X Y : Type 0} (s : Read X) (f g : X → List ℕ → Read Y) → ((x : X) (r : List ℕ) → f x r ≡ g x r) → bind s f ≡ bind s g
bind_same (got x r) f g e = e x r
bind_same (failed r) f g e = refl

past_bind : {X Y : Type 0} (s : Read X) (f : X → List ℕ → Read Y) → past (bind s f) ≡ bind s (λ x r. past (f x r))
unfolding past
past_bind (got x r) f = refl
past_bind (failed r) f = refl

bind_past : {X Y : Type 0} (s : Read X) (f : List ℕ → Read Y) → bind s (λ _ r. f r) ≡ bind (past s) (λ _ r. f r)
unfolding past
bind_past (got x r) f = refl
bind_past (failed r) f = refl

-- one thing and then the others
many_one : (n : ℕ) (bs : List ℕ) → rest_of (suc n) bs ≡ bind (past (read_expr bs)) (λ _ r. rest_of n r)
many_one n bs =
    past_bind (read_expr bs) (λ x r. bind (read_many read_expr n r) (λ xs r'. got (x ∷ xs) r'))
    ∙ bind_same (read_expr bs) (λ x r. past (bind (read_many read_expr n r) (λ xs r'. got (x ∷ xs) r'))) (λ x r. rest_of n r) (λ x r. past_map (λ xs. x ∷ xs) (read_many read_expr n r))
    ∙ bind_past (read_expr bs) (λ r. rest_of n r)

-- so many and then so many more
many_more : (k n : ℕ) (bs : List ℕ) → rest_of (k + n) bs ≡ bind (rest_of k bs) (λ _ r. rest_of n r)
unfolding past
many_more zero n bs = ap (λ m. rest_of m bs) (zero-add n)
many_more (suc k) n bs =
    ap (λ m. rest_of m bs) (suc-add k n) ∙ many_one (k + n) bs
    ∙ bind_same (past (read_expr bs)) (λ _ r. rest_of (k + n) r) (λ _ r. bind (rest_of k r) (λ _ r'. rest_of n r')) (λ _ r. many_more k n r)
    ∙ sym (bind_assoc (past (read_expr bs)) (λ _ r. rest_of k r) (λ _ r. rest_of n r))
    ∙ ap (λ s. bind s (λ _ r. rest_of n r)) (sym (many_one k bs))

one : (bs : List ℕ) → rest_of 1 bs ≡ past (read_expr bs)
unfolding past
one bs = many_one 0 bs ∙ go (read_expr bs)
  where
    go : (s : Read Expr) → bind (past s) (λ _ r. got tt r) ≡ past s
    go (got x r) = refl
    go (failed r) = refl

-- by tag
leaf : {X : Type 0} (f : X → Expr) (s : Read X) → past (bind s (λ x r. got (f x) r)) ≡ bind (bind s (λ x r. got 0 r)) (λ k r. rest_of k r)
unfolding past
leaf f (got x r) = refl
leaf f (failed r) = refl

of_slice : (bs : List ℕ) → past (bind (read_number 2 bs) (λ lo r. bind (read_number 2 r) (λ hi r. bind (read_expr r) (λ e r. got (slice e lo hi) r)))) ≡ bind (bind (read_number 2 bs) (λ lo r. bind (read_number 2 r) (λ hi r. got 1 r))) (λ k r. rest_of k r)
unfolding past
of_slice bs = go (read_number 2 bs)
  where
    inner : (lo : ℕ) (s : Read ℕ) → past (bind s (λ hi r. bind (read_expr r) (λ e r. got (slice e lo hi) r))) ≡ bind (bind s (λ hi r. got 1 r)) (λ k r. rest_of k r)
    inner lo (got hi r) = past_map (λ e. slice e lo hi) (read_expr r) ∙ sym (one r)
    inner lo (failed r) = refl

    go : (s : Read ℕ) → past (bind s (λ lo r. bind (read_number 2 r) (λ hi r. bind (read_expr r) (λ e r. got (slice e lo hi) r)))) ≡ bind (bind s (λ lo r. bind (read_number 2 r) (λ hi r. got 1 r))) (λ k r. rest_of k r)
    go (got lo r) = inner lo (read_number 2 r)
    go (failed r) = refl

of_join : (bs : List ℕ) → past (bind (read_expr bs) (λ d r. bind (read_expr r) (λ e r. got (join d e) r))) ≡ rest_of 2 bs
of_join bs =
    past_bind (read_expr bs) (λ d r. bind (read_expr r) (λ e r. got (join d e) r))
    ∙ bind_same (read_expr bs) (λ d r. past (bind (read_expr r) (λ e r. got (join d e) r))) (λ d r. rest_of 1 r) (λ d r. past_map (join d) (read_expr r) ∙ sym (one r))
    ∙ bind_past (read_expr bs) (λ r. rest_of 1 r) ∙ sym (many_one 1 bs)

by_head : (bs : List ℕ) → past (read_expr bs) ≡ bind (read_head bs) (λ k r. rest_of k r)
unfolding past
by_head bs = ap past (read_expr-step bs) ∙ go (read_number 1 bs)
  where
    tagged : (tag : ℕ) (r : List ℕ) → past (get_or (expr_choices read_expr r) tag (failed bs)) ≡ bind (get_or (head_choices r) tag (failed bs)) (λ k r. rest_of k r)
    tagged zero r = leaf header (read_number 2 r)
    tagged (suc zero) r = leaf bits (read_row 2 r)
    tagged (suc (suc zero)) r = of_slice r
    tagged (suc (suc (suc zero))) r = of_join r
    tagged (suc (suc (suc (suc t)))) r = refl

    go : (s : Read ℕ) → past (bind s (λ tag r. get_or (expr_choices read_expr r) tag (failed bs))) ≡ bind (bind s (λ tag r. get_or (head_choices r) tag (failed bs))) (λ k r. rest_of k r)
    go (got tag r) = tagged tag r
    go (failed r) = refl

-- so many things are over, whatever they were, as one is
pub record Skimming (whole : Read Expr) (old now : Place) (owed : ℕ) : Type 0 where
  pub within : now.at ≤ length now.bytes
  pub stays : now.bytes ≡ old.bytes
  pub few : owed ≤ now.at + 1
  pub same : past whole ≡ rest_of owed (left now)

pub started : (old : Place) → old.at ≤ length old.bytes → Skimming (read_expr (left old)) old old 1
started old l = record { within = l; stays = refl; few = omega arith; same = sym (one (left old)) }

-- by the head of the next
step : (n : ℕ) (bs : List ℕ) → rest_of (suc n) bs ≡ bind (read_head bs) (λ k r. rest_of (k + n) r)
step n bs =
    many_one n bs ∙ ap (λ s. bind s (λ _ r. rest_of n r)) (by_head bs) ∙ bind_assoc (read_head bs) (λ k r. rest_of k r) (λ _ r. rest_of n r)
    ∙ bind_same (read_head bs) (λ k r. bind (rest_of k r) (λ _ r'. rest_of n r')) (λ k r. rest_of (k + n) r) (λ k r. sym (many_more k n r))

past_got : {X : Type 0} (s : Read X) (r : List ℕ) → past s ≡ got tt r → (x : X) × (s ≡ got x r)
unfolding past
past_got (got x q) r e = let z : q ≡ r = cc in (x, ap (got x) z)
past_got (failed q) r e = absurd (let z : ◌≡◌ {A = ℕ} 0 1 = cc in omega arith)

past_failed : {X : Type 0} (s : Read X) (r : List ℕ) → past s ≡ failed r → s ≡ failed r
unfolding past
past_failed (got x q) r e = absurd (let z : ◌≡◌ {A = ℕ} 0 1 = cc in omega arith)
past_failed (failed q) r e = let z : q ≡ r = cc in ap failed z

module _ {whole : Read Expr} {old now : Place} {owed : ℕ} (so_far : Skimming whole old now owed) where
  by_next : (n : ℕ) → owed ≡ suc n → past whole ≡ bind (read_head (left now)) (λ k r. rest_of (k + n) r)
  by_next n e = so_far.same ∙ ap (λ m. rest_of m (left now)) e ∙ step n (left now)

  pub goes_on : {k : ℕ} {new : Place} (n : ℕ) → owed ≡ suc n → Took (read_head (left now)) (Is (λ n. n)) now k new → (owed' : ℕ) → k + n ≡ owed' → owed' ≤ new.at + 1 → Skimming whole old new owed'
  goes_on {k} {new} n e t owed' more l =
      record {
        within = t.within;
        stays = t.same ∙ so_far.stays;
        few = l;
        same = by_next n e ∙ ap (λ s. bind s (λ m r. rest_of (m + n) r)) t.reads ∙ ap (λ m. rest_of (m + n) (left new)) (sym t.meant) ∙ ap (λ m. rest_of m (left new)) more;
      }

  pub over : owed ≡ 0 → Took whole (λ (_ : Unit {0}) _. Unit {0}) old tt now
  unfolding past
  over e = let p = past_got whole (left now) (so_far.same ∙ ap (λ m. rest_of m (left now)) e) in record { within = so_far.within; same = so_far.stays; value = p.0; reads = p.1; meant = tt }

  breaks_at : {e : Fault} (n : ℕ) → owed ≡ suc n → Failed (read_head (left now)) old.bytes e → Failed whole old.bytes e
  unfolding past
  breaks_at n is (ceased {k} v) = ceased (record { within = v.within; reads = past_failed whole (drop k old.bytes) (by_next n is ∙ ap (λ s. bind s (λ m r. rest_of (m + n) r)) v.reads) })
  breaks_at n is no_memory = no_memory

  pub breaks : {e : Fault} {new : Place} (n : ℕ) → owed ≡ suc n → Stopped (read_head (left now)) now new e → Stopped whole old new e
  breaks {e} n is u = record { same = u.same ∙ so_far.stays; why = breaks_at n is (subst (λ b. Failed (read_head (left now)) b e) so_far.stays u.why) }
