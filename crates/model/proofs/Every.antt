-- A test of each element of a list: where it holds, by a map, and by a loop.
use Rattle.std.proofs.Common.{◌≡◌, ℕ, zero, suc, ◌+◌, ◌<◌, ◌≤◌, Bool, true, false, ◌&&◌, List, [], ◌∷◌, ◌++◌, map, length, get_or, take, drop, sym, refl, ap, ◌∙◌, subst, not-suc-le-zero, arith}
use Rattle.std.proofs.lemmas.List.{drop_more, drop_all}
use Rattle.std.proofs.lemmas.Bool.{and_parts, and_from, and_left, and_right}
use Rattle.model.specs.Refusal.{every}

pub every_map : {X Y : Type 0} (f : Y → Bool) (g : X → Y) (xs : List X) → every f (map g xs) ≡ every (λ x. f (g x)) xs
every_map f g [] = refl
every_map f g (x ∷ xs) = ap (λ b. f (g x) && b) (every_map f g xs)

pub every_same : {X : Type 0} (f g : X → Bool) → ((x : X) → f x ≡ g x) → (xs : List X) → every f xs ≡ every g xs
every_same f g e [] = refl
every_same f g e (x ∷ xs) = ap (λ b. b && every f xs) (e x) ∙ ap (λ b. g x && b) (every_same f g e xs)

-- the first i elements passed
module _ {X : Type 0} (f : X → Bool) (xs : List X) (i : ℕ) (so_far : every f (drop i xs) ≡ every f xs) where
  one : {x : X} → i < length xs → x ≡ get_or xs i x → every f xs ≡ (f x && every f (drop (i + 1) xs))
  one {x} l is = sym so_far ∙ ap (every f) (drop_more xs i x l ∙ ap (λ y. y ∷ drop (i + 1) xs) (sym is))

  pub every_more : {x : X} → i < length xs → x ≡ get_or xs i x → f x ≡ true → every f (drop (i + 1) xs) ≡ every f xs
  every_more l is t = sym (one l is ∙ ap (λ b. b && every f (drop (i + 1) xs)) t)

  pub every_fails : {x : X} → i < length xs → x ≡ get_or xs i x → f x ≡ false → false ≡ every f xs
  every_fails l is t = sym (one l is ∙ ap (λ b. b && every f (drop (i + 1) xs)) t)

  pub every_all : length xs ≤ i → true ≡ every f xs
  every_all l = sym (ap (every f) (drop_all i xs l)) ∙ so_far

-- what was read at i is the first of what is left
pub drop_read : {X : Type 0} (xs : List X) (i : ℕ) (x : X) → i < length xs → x ≡ get_or xs i x → drop i xs ≡ x ∷ drop (i + 1) xs
drop_read xs i x l is = drop_more xs i x l ∙ ap (λ y. y ∷ drop (i + 1) xs) (sym is)

module _ {X : Type 0} (f : X → Bool) where
  pub every_at : (xs : List X) → every f xs ≡ true → (i : ℕ) (d : X) → i < length xs → f (get_or xs i d) ≡ true
  every_at [] e i d l = absurd (not-suc-le-zero l)
  every_at (x ∷ xs) e zero d l = (and_parts _ _ e).0
  every_at (x ∷ xs) e (suc i) d l = every_at xs (and_parts _ _ e).1 i d (omega arith)

  pub every_drop : (xs : List X) → every f xs ≡ true → (n : ℕ) → every f (drop n xs) ≡ true
  every_drop xs e zero = e
  every_drop [] e (suc n) = refl
  every_drop (x ∷ xs) e (suc n) = every_drop xs (and_parts _ _ e).1 n

  pub every_take : (xs : List X) → every f xs ≡ true → (n : ℕ) → every f (take n xs) ≡ true
  every_take xs e zero = refl
  every_take [] e (suc n) = refl
  every_take (x ∷ xs) e (suc n) = let p = and_parts _ _ e in and_from _ _ p.0 (every_take xs p.1 n)

  pub every_append : (xs ys : List X) → every f xs ≡ true → every f ys ≡ true → every f (xs ++ ys) ≡ true
  every_append [] ys a b = b
  every_append (x ∷ xs) ys a b = let p = and_parts _ _ a in and_from _ _ p.0 (every_append xs ys p.1 b)

-- of what was read at i
pub every_read : {X Y : Type 0} (f : Y → Bool) (g : X → Y) (xs : List X) → every f (map g xs) ≡ true → (i : ℕ) {x : X} → i < length xs → x ≡ get_or xs i x → f (g x) ≡ true
every_read f g [] e i l read = absurd (not-suc-le-zero l)
every_read f g (y ∷ ys) e zero l read = subst (λ z. f (g z) ≡ true) (sym read) (and_parts _ _ e).0
every_read f g (y ∷ ys) e (suc i) l read = every_read f g ys (and_parts _ _ e).1 i (omega arith) read

-- one more at the end
and_both : (b x y : Bool) → (x ≡ false → y ≡ false) → (b && x) ≡ false → (b && y) ≡ false
and_both true x y f e = f e
and_both false x y f e = refl

pub every_front : {Y : Type 0} (sh : Y → Bool) (zs : List Y) (z : Y) → every sh zs ≡ false → every sh (zs ++ z ∷ []) ≡ false
every_front sh [] z e = absurd (let q : ◌≡◌ {A = ℕ} 0 1 = cc in omega arith)
every_front sh (y ∷ zs) z e = and_both (sh y) (every sh zs) (every sh (zs ++ z ∷ [])) (every_front sh zs z) e

pub every_last : {Y : Type 0} (sh : Y → Bool) (zs : List Y) (z : Y) → sh z ≡ false → every sh (zs ++ z ∷ []) ≡ false
every_last sh [] z e = and_left (sh z) true e
every_last sh (y ∷ zs) z e = and_right (sh y) (every sh (zs ++ z ∷ [])) (every_last sh zs z e)
