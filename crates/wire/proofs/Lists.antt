-- Reading a list: what was read so far, and what is left.
use Rattle.std.proofs.Common.{◌≡◌, ℕ, suc, ◌+◌, ◌-◌, ◌<◌, ◌≤◌, Bool, false, List, [], ◌∷◌, ◌++◌, map, length, Some, None, inl, inr, vec_items, Option, Vec, Result, IsErrAnd, MatchResult, sym, refl, ap, ap₂, ◌∙◌, subst, arith}
use Rattle.std.specs.List.{AllZip}
use Rattle.std.specs.Option.{option_map}
use Rattle.std.specs.declared.alloc.Global.{Global}
use Rattle.std.proofs.lemmas.List.{append_assoc, append-nil}
use Rattle.std.proofs.lemmas.Bool.{and_left, and_right}
use Rattle.model.specs.Refusal.{every}
use Rattle.format.specs.Read.{Read, got, failed, bind, read_number, read_many, read_counted}
use Rattle.scan.specs.Reads.{Place, left, Took, Stopped, Failed, ceased, no_memory, Is, Within}
use Rattle.scan.proofs.Chain.{then_took, then_stopped, exit}
use Rattle.scan.specs.declared.fault.Fault.{Fault}
use Rattle.wire.specs.Kept.{Lacks, EachKept, appended}

-- the whole list is what was read, and then as many as are to come
pub record Listing {Y Z : Type 0} (read : List ℕ → Read Y) (means : Z → List Y → Type 0) (old now : Place) (whole : Read (List Y)) (to_come : ℕ) (z : Z) : Type 0 where
  pub within : now.at ≤ length now.bytes
  pub stays : now.bytes ≡ old.bytes
  pub prefix : List Y
  pub same : whole ≡ bind (read_many read to_come (left now)) (λ ys r. got (prefix ++ ys) r)
  pub meant : means z prefix

module _ {Y Z : Type 0} {read : List ℕ → Read Y} {means : Z → List Y → Type 0} {old now : Place} {whole : Read (List Y)} {to_come : ℕ} {z : Z} (so_far : Listing read means old now whole to_come z) where
  -- by the next element
  one : (m : ℕ) → to_come ≡ suc m
      → whole ≡ bind (bind (read (left now)) (λ y r. bind (read_many read m r) (λ ys r'. got (y ∷ ys) r'))) (λ ys r. got (so_far.prefix ++ ys) r)
  one m e = so_far.same ∙ ap (λ n. bind (read_many read n (left now)) (λ ys r. got (so_far.prefix ++ ys) r)) e

  pub listing_more : {X : Type 0} {means₁ : X → Y → Type 0} {x : X} {new : Place} (m : ℕ) → to_come ≡ suc m → (t : Took (read (left now)) means₁ now x new) (z' : Z)
      → means z' (so_far.prefix ++ t.value ∷ []) → Listing read means old new whole m z'
  listing_more {new = new} m e t z' meant' =
      record {
        within = t.within;
        stays = t.same ∙ so_far.stays;
        prefix = so_far.prefix ++ t.value ∷ [];
        same = one m e ∙ ap (λ s. bind (bind s (λ y r. bind (read_many read m r) (λ ys r'. got (y ∷ ys) r'))) (λ ys r. got (so_far.prefix ++ ys) r)) t.reads ∙ go (read_many read m (left new));
        meant = meant';
      }
    where
      go : (s : Read (List Y)) → bind (bind s (λ ys r. got (t.value ∷ ys) r)) (λ ys r. got (so_far.prefix ++ ys) r) ≡ bind s (λ ys r. got ((so_far.prefix ++ t.value ∷ []) ++ ys) r)
      go (got ys r) = ap (λ l. got l r) (sym (append_assoc so_far.prefix (t.value ∷ []) ys))
      go (failed r) = refl

  pub listing_all : to_come ≡ 0 → Took whole means old z now
  listing_all e =
      record {
        within = so_far.within;
        same = so_far.stays;
        value = so_far.prefix;
        reads = so_far.same ∙ ap (λ n. bind (read_many read n (left now)) (λ ys r. got (so_far.prefix ++ ys) r)) e ∙ ap (λ l. got l (left now)) (append-nil so_far.prefix);
        meant = so_far.meant;
      }

  listing_failed : {e : Fault} (m : ℕ) → to_come ≡ suc m → Failed (read (left now)) old.bytes e → Failed whole old.bytes e
  listing_failed m e (ceased u) =
      ceased (record {
        within = u.within;
        reads = one m e ∙ ap (λ s. bind (bind s (λ y r. bind (read_many read m r) (λ ys r'. got (y ∷ ys) r'))) (λ ys r. got (so_far.prefix ++ ys) r)) u.reads;
      })
  listing_failed m e no_memory = no_memory

  pub listing_stopped : {e : Fault} {new : Place} (m : ℕ) → to_come ≡ suc m → Stopped (read (left now)) now new e → Stopped whole old new e
  listing_stopped {e} m is u = record { same = u.same ∙ so_far.stays; why = listing_failed m is (subst (λ b. Failed (read (left now)) b e) so_far.stays u.why) }

-- one more element
pub each_more : {X Y : Type 0} (means : X → Y → Type 0) (xs : List X) (ys : List Y) (x : X) (y : Y) → AllZip means xs ys → means x y → AllZip means (xs ++ x ∷ []) (ys ++ y ∷ [])
each_more means [] [] x y e m = (m, tt)
each_more means [] (z ∷ ys) x y e m = absurd e
each_more means (w ∷ xs) [] x y e m = absurd e
each_more means (w ∷ xs) (z ∷ ys) x y e m = (e.0, each_more means xs ys x y e.1 m)

module _ {X Y : Type 0} (means : Option X → Y → Type 0) where
  lacks_front : (ys : List Y) (y : Y) → Lacks means ys → Lacks means (ys ++ y ∷ [])
  lacks_front [] y l = absurd l
  lacks_front (z ∷ ys) y (inl m) = inl m
  lacks_front (z ∷ ys) y (inr l) = inr (lacks_front ys y l)

  lacks_last : (ys : List Y) (y : Y) → means None y → Lacks means (ys ++ y ∷ [])
  lacks_last [] y m = inl m
  lacks_last (z ∷ ys) y m = inr (lacks_last ys y m)

  -- one more element of a list that may not have been kept
  pub kept_more : (list : Option (Vec X Global)) (item : Option X) (o : Option (Vec X Global)) (ys : List Y) (y : Y)
      → EachKept means list ys → means item y → option_map vec_items o ≡ appended (option_map vec_items list) item → EachKept means o (ys ++ y ∷ [])
  kept_more (Some v) (Some x) (Some w) ys y e m p =
      let same : vec_items w ≡ vec_items v ++ x ∷ [] = cc in
      subst (λ xs. AllZip (λ x. means (Some x)) xs (ys ++ y ∷ [])) (sym same) (each_more (λ x. means (Some x)) (vec_items v) ys x y e m)
  kept_more (Some v) (Some x) None ys y e m p = absurd (let n : ◌≡◌ {A = ℕ} 0 1 = cc in omega arith)
  kept_more (Some v) None (Some w) ys y e m p = absurd (let n : ◌≡◌ {A = ℕ} 0 1 = cc in omega arith)
  kept_more (Some v) None None ys y e m p = lacks_last ys y m
  kept_more None i (Some w) ys y e m p = absurd (let n : ◌≡◌ {A = ℕ} 0 1 = cc in omega arith)
  kept_more None i None ys y e m p = lacks_front ys y e

-- where the meaning of an element is a function of it, so is that of a list
pub each_is : {X Y : Type 0} (f : X → Y) (xs : List X) (ys : List Y) → AllZip (Is f) xs ys → map f xs ≡ ys
each_is f [] [] e = refl
each_is f [] (y ∷ ys) e = absurd e
each_is f (x ∷ xs) [] e = absurd e
each_is f (x ∷ xs) (y ∷ ys) e = ap₂ (λ z zs. z ∷ zs) e.0 (each_is f xs ys e.1)

module _ {X Y : Type 0} (f : X → Y) (sh : Y → Bool) where
  lacks_shallow : (ys : List Y) → Lacks (Within f sh) ys → every sh ys ≡ false
  lacks_shallow [] l = absurd l
  lacks_shallow (y ∷ ys) (inl m) = and_left (sh y) (every sh ys) m
  lacks_shallow (y ∷ ys) (inr l) = and_right (sh y) (every sh ys) (lacks_shallow ys l)

  pub kept_within : (o : Option (Vec X Global)) (ys : List Y) → EachKept (Within f sh) o ys → Within (λ v. map f (vec_items v)) (every sh) o ys
  kept_within (Some v) ys e = each_is f (vec_items v) ys e
  kept_within None ys l = lacks_shallow ys l

-- one fewer is to come
pub one_fewer : (n i : ℕ) → i < n → n - i ≡ suc (n - (i + 1))
one_fewer n i l = omega arith

-- how many, and then these
module _ {Y : Type 0} (read : List ℕ → Read Y) {old mid : Place} {n : ℕ} (t : Took (read_number 2 (left old)) (Is (λ m. m)) old n mid) where
  pub counted_took : {Z : Type 0} {means : Z → List Y → Type 0} {z : Z} {new : Place} → Took (read_many read n (left mid)) means mid z new → Took (read_counted read (left old)) means old z new
  counted_took {means = means} {z = z} {new = new} u = then_took (λ m r. read_many read m r) t (subst (λ m. Took (read_many read m (left mid)) means mid z new) t.meant u)

  pub counted_stopped : {e : Fault} {new : Place} → Stopped (read_many read n (left mid)) mid new e → Stopped (read_counted read (left old)) old new e
  counted_stopped {e} {new} u = then_stopped (λ m r. read_many read m r) t (subst (λ m. Stopped (read_many read m (left mid)) mid new e) t.meant u)

  -- one of them is not read, and `?` hands on why
  pub one_stopped : {Z W : Type 0} {means : Z → List Y → Type 0} {z : Z} {now new : Place} {i : ℕ} {e : Fault} (P : W → Type 0) (res : Result W Fault) → IsErrAnd res (λ y. y ≡ e)
      → Listing read means mid now (read_many read n (left mid)) (n - i) z → i < n → Stopped (read (left now)) now new e
      → MatchResult res P (λ y. Stopped (read_counted read (left old)) old new y)
  one_stopped {i = i} P res by so_far l u = exit P res by (counted_stopped (listing_stopped so_far _ (one_fewer n i l) u))
