-- A reader goes by the bytes that it reads: what comes after them changes nothing, and where it fails, the bytes before are a beginning. This is kept where readers are made of readers.
use Rattle.std.proofs.Common.{◌≡◌, ℕ, zero, suc, ◌-◌, ◌≤◌, leb, List, [], ◌∷◌, ◌++◌, map, length, get_or, take, drop, replicate, sym, refl, ap, ◌∙◌, subst, arith}
use Rattle.std.proofs.lemmas.List.{append-nil, append_assoc, length-append, length-replicate, take-append-drop, length-take-le}
use Rattle.std.proofs.lemmas.Bool.{leb-true, leb-false, cond_both}
use Rattle.format.specs.Read.{Read, got, failed, bind, read_bytes, big_endian, read_number, read_tagged, read_many, read_counted, read_row}
use Rattle.format.proofs.Exprs.{read_tag}
use Rattle.format.proofs.Numbers.{read_bytes-append}

-- some bytes after these make the whole of something
abbrev pub Begun : {X : Type 0} → (List ℕ → Read X) → List ℕ → Type 0
Begun {X} f p = (t : List ℕ) × (x : X) × ((u : List ℕ) → f (p ++ (t ++ u)) ≡ got x u)

-- where a byte stands after these, a reader fails at it, whatever comes after that byte
abbrev pub Stops : {X : Type 0} → (List ℕ → Read X) → List ℕ → List ℕ → Type 0
Stops f p [] = Unit
Stops f p (b ∷ rest) = (t : List ℕ) → f (p ++ b ∷ t) ≡ failed (b ∷ t)

-- of bytes that a reader reads so: what it got it gets from the bytes before what is left, whatever comes after them;
-- where it failed, the bytes before are the beginning of something, and with the byte that stands there they are not
abbrev pub LocalAt : {X : Type 0} → (List ℕ → Read X) → List ℕ → Read X → Type 0
LocalAt f bs (got x rest) = (p : List ℕ) × (bs ≡ p ++ rest) × ((t : List ℕ) → f (p ++ t) ≡ got x t)
LocalAt f bs (failed rest) = (p : List ℕ) × (bs ≡ p ++ rest) × Stops f p rest × Begun f p

-- on at most so many bytes; and there is something to read
pub record Local {X : Type 0} (n : ℕ) (f : List ℕ → Read X) : Type 0 where
  pub on : (bs : List ℕ) → length bs ≤ n → LocalAt f bs (f bs)
  pub some : Begun f []

pub local_fewer : {X : Type 0} {f : List ℕ → Read X} (m n : ℕ) → m ≤ n → Local n f → Local m f
local_fewer m n l local = record { on = λ bs k. local.on bs (omega arith); some = local.some }

pub local_got : {X : Type 0} {n : ℕ} (x : X) → Local n (λ bs. got x bs)
local_got x = record { on = λ bs l. ([], refl, λ t. refl); some = ([], x, λ u. refl) }

-- a reader h that goes on as another, f, after some bytes p
module _ {X : Type 0} (f h : List ℕ → Read X) (p : List ℕ) (goes : (t : List ℕ) → h (p ++ t) ≡ f t) where
  on_as : (q t : List ℕ) → h ((p ++ q) ++ t) ≡ f (q ++ t)
  on_as q t = ap h (append_assoc p q t) ∙ goes (q ++ t)

  stops_after : (q s : List ℕ) → Stops f q s → Stops h (p ++ q) s
  stops_after q [] stops = tt
  stops_after q (b ∷ s) stops = λ t. on_as q (b ∷ t) ∙ stops t

  begun_after : (q : List ℕ) → Begun f q → Begun h (p ++ q)
  begun_after q (t, x, full) = (t, x, λ u. on_as q (t ++ u) ∙ full u)

  after : (bs rest : List ℕ) → bs ≡ p ++ rest → (x : Read X) → LocalAt f rest x → LocalAt h bs x
  after bs rest e (got x s) (q, k, same) = (p ++ q, e ∙ ap (λ z. p ++ z) k ∙ sym (append_assoc p q s), λ t. on_as q t ∙ same t)
  after bs rest e (failed s) (q, k, stops, begun) = (p ++ q, e ∙ ap (λ z. p ++ z) k ∙ sym (append_assoc p q s), stops_after q s stops, begun_after q begun)

pub local_same : {X : Type 0} {n : ℕ} {f h : List ℕ → Read X} → ((bs : List ℕ) → h bs ≡ f bs) → Local n f → Local n h
local_same {f = f} {h = h} same local =
    record {
      on = λ bs l. after f h [] same bs bs refl (h bs) (subst (LocalAt f bs) (sym (same bs)) (local.on bs l));
      some = begun_after f h [] same [] local.some;
    }

module _ {X Y : Type 0} (n : ℕ) (f : List ℕ → Read X) (g : X → List ℕ → Read Y) (next : (x : X) → Local n (g x)) where
  stops_bind : (p rest : List ℕ) → Stops f p rest → Stops (λ bs. bind (f bs) g) p rest
  stops_bind p [] stops = tt
  stops_bind p (b ∷ rest) stops = λ t. ap (λ y. bind y g) (stops t)

  begun_bind : (p : List ℕ) → Begun f p → Begun (λ bs. bind (f bs) g) p
  begun_bind p (t, x, full) =
      let (v, y, filled) = (next x).some in
      (t ++ v, y, λ u. ap (λ z. bind (f (p ++ z)) g) (append_assoc t v u) ∙ ap (λ z. bind z g) (full (v ++ u)) ∙ filled u)

  bind_at : (bs : List ℕ) → length bs ≤ n → (x : Read X) → LocalAt f bs x → LocalAt (λ bs. bind (f bs) g) bs (bind x g)
  bind_at bs l (got x rest) (p, e, same) =
      after (g x) (λ bs. bind (f bs) g) p (λ t. ap (λ y. bind y g) (same t)) bs rest e (g x rest) ((next x).on rest (omega (arith, ap length e, length-append p rest)))
  bind_at bs l (failed rest) (p, e, stops, begun) = (p, e, stops_bind p rest stops, begun_bind p begun)

pub local_bind : {X Y : Type 0} {n : ℕ} {f : List ℕ → Read X} {g : X → List ℕ → Read Y} → Local n f → ((x : X) → Local n (g x)) → Local n (λ bs. bind (f bs) g)
local_bind {n = n} {f = f} {g = g} local next = record { on = λ bs l. bind_at n f g next bs l (f bs) (local.on bs l); some = begun_bind n f g next [] local.some }

-- one thing, and what is made of it
pub local_map : {X Y : Type 0} {n : ℕ} {f : List ℕ → Read X} (g : X → Y) → Local n f → Local n (λ bs. bind (f bs) (λ x r. got (g x) r))
local_map g local = local_bind local (λ x. local_got (g x))

-- fewer bytes than are wanted, and some more
begun_bytes : (k : ℕ) (bs : List ℕ) → length bs ≤ k → Begun (read_bytes k) bs
begun_bytes k bs l =
    let t : List ℕ = replicate (k - length bs) 0 in
    let long : length (bs ++ t) ≡ k = length-append bs t ∙ omega (arith, length-replicate {A = ℕ} (k - length bs) 0) in
    (t, bs ++ t, λ u. ap (read_bytes k) (sym (append_assoc bs t u)) ∙ read_bytes-append (bs ++ t) u k long)

pub local_bytes : {n : ℕ} (k : ℕ) → Local n (read_bytes k)
local_bytes k =
    record {
      on = λ bs l.
          cond_both (leb k (length bs)) (got (take k bs) (drop k bs)) (failed []) (LocalAt (read_bytes k) bs)
          (λ e. (take k bs, sym (take-append-drop k bs), λ t. read_bytes-append (take k bs) t k (length-take-le k bs (leb-true k (length bs) e))))
          (λ e. (bs, sym (append-nil bs), tt, begun_bytes k bs (omega (arith, leb-false k (length bs) e))));
      some = begun_bytes k [] (omega arith);
    }

pub local_number : {n : ℕ} (k : ℕ) → Local n (read_number k)
local_number k = local_map (big_endian 0) (local_bytes k)

pub local_row : {n : ℕ} (k : ℕ) → Local n (read_row k)
local_row k = local_bind (local_number k) local_bytes

pub local_many : {X : Type 0} {n : ℕ} {f : List ℕ → Read X} → Local n f → (k : ℕ) → Local n (read_many f k)
local_many local zero = local_got []
local_many local (suc k) = local_bind local (λ x. local_map (λ xs. x ∷ xs) (local_many local k))

pub local_counted : {X : Type 0} {n : ℕ} {f : List ℕ → Read X} → Local n f → Local n (read_counted f)
local_counted local = local_bind (local_number 2) (local_many local)

-- each of some readers
pub data Locals {X : Type 0} (n : ℕ) : List (List ℕ → Read X) → Type 0 where
  none : Locals n []
  more : {f : List ℕ → Read X} {fs : List (List ℕ → Read X)} → Local n f → Locals n fs → Locals n (f ∷ fs)

-- some readers, on the same bytes
abbrev choose : {X : Type 0} → List (List ℕ → Read X) → List ℕ → List (Read X)
choose fs bs = map (λ f. f bs) fs

pick_at : {X : Type 0} (n : ℕ) (h : List ℕ → Read X) → Begun h [] → (b : ℕ) (r : List ℕ) → length r ≤ n → (fs : List (List ℕ → Read X)) → Locals n fs → (k : ℕ)
    → ((t : List ℕ) → h (b ∷ t) ≡ get_or (choose fs t) k (failed (b ∷ t))) → LocalAt h (b ∷ r) (get_or (choose fs r) k (failed (b ∷ r)))
pick_at n h begun b r l [] none k goes = ([], refl, goes, begun)
pick_at n h begun b r l (f ∷ fs) (more local all) zero goes = after f h (b ∷ []) goes (b ∷ r) r refl (f r) (local.on r l)
pick_at n h begun b r l (f ∷ fs) (more local all) (suc k) goes = pick_at n h begun b r l fs all k goes

tagged_at : {X : Type 0} (n : ℕ) (fs : List (List ℕ → Read X)) → Locals n fs → Begun (read_tagged (choose fs)) [] → (bs : List ℕ) → length bs ≤ suc n
    → LocalAt (read_tagged (choose fs)) bs (read_tagged (choose fs) bs)
tagged_at n fs all begun [] l = ([], refl, tt, begun)
tagged_at n fs all begun (b ∷ r) l =
    subst (LocalAt (read_tagged (choose fs)) (b ∷ r)) (sym (read_tag (choose fs) b r))
    (pick_at n (read_tagged (choose fs)) begun b r (omega arith) fs all b (read_tag (choose fs) b))

-- the first of some readers, after tag 0
begun_tagged : {X : Type 0} (f : List ℕ → Read X) (fs : List (List ℕ → Read X)) → Begun f [] → Begun (read_tagged (choose (f ∷ fs))) []
begun_tagged f fs (t, x, full) = (0 ∷ t, x, λ u. read_tag (choose (f ∷ fs)) 0 (t ++ u) ∙ full u)

-- a tag takes a byte, so what stands after it has one less
pub local_tagged_suc : {X : Type 0} {n : ℕ} {f : List ℕ → Read X} {fs : List (List ℕ → Read X)} → Local n f → Locals n fs → Local (suc n) (read_tagged (choose (f ∷ fs)))
local_tagged_suc {n = n} {f = f} {fs = fs} local all =
    let begun : Begun (read_tagged (choose (f ∷ fs))) [] = begun_tagged f fs local.some in
    record { on = tagged_at n (f ∷ fs) (more local all) begun; some = begun }

pub local_tagged : {X : Type 0} {n : ℕ} {f : List ℕ → Read X} {fs : List (List ℕ → Read X)} → Local n f → Locals n fs → Local n (read_tagged (choose (f ∷ fs)))
local_tagged {n = n} local all = local_fewer n (suc n) (omega arith) (local_tagged_suc local all)
