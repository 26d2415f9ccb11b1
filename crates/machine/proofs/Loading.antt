-- The loop that puts what is said of the headers into a store. Assumes nothing.
use Rattle.std.proofs.Common.{◌≡◌, ℕ, zero, suc, ◌+◌, ◌<◌, ◌≤◌, true, List, [], ◌∷◌, map, length, get_or, set, vec_items, Vec, sym, refl, ap, ◌∙◌, subst, ⊎_elim, not-suc-le-zero, arith}
use Rattle.std.specs.declared.alloc.Global.{Global}
use Rattle.std.proofs.lemmas.List.{ext_get_or, get_or-map, get_or-set_same, get_or-set_other, length-map, length-set}
use Rattle.std.proofs.lemmas.Bool.{and_parts, eqb-true, cases_lt, false≢true}
use Rattle.model.specs.Parser.{Store}
use Rattle.model.specs.Refusal.{are_bits, store_fits}

pub store_length : (ns : List ℕ) (s : Store) → store_fits ns s ≡ true → length s ≡ length ns
store_length [] [] f = refl
store_length [] (b ∷ bs) f = absurd (false≢true f)
store_length (n ∷ ns) [] f = absurd (false≢true f)
store_length (n ∷ ns) (b ∷ bs) f = ap suc (store_length ns bs (and_parts _ _ f).1)

-- each header has its size, and is bits
pub header_fits : (ns : List ℕ) (s : Store) → store_fits ns s ≡ true → (h : ℕ) → h < length s → (length (get_or s h []) ≡ get_or ns h 0) × (are_bits (get_or s h []) ≡ true)
header_fits ns [] f h l = absurd (not-suc-le-zero l)
header_fits [] (b ∷ bs) f h l = absurd (false≢true f)
header_fits (n ∷ ns) (b ∷ bs) f zero l = let p = and_parts _ _ (and_parts _ _ f).0 in (eqb-true _ _ p.0, p.1)
header_fits (n ∷ ns) (b ∷ bs) f (suc h) l = header_fits ns bs (and_parts _ _ f).1 h (omega arith)

-- the first i headers are in
pub record Loaded (all now : Store) (i : ℕ) : Type 0 where
  pub long : length now ≡ length all
  pub in' : (h : ℕ) → h < i → get_or now h [] ≡ get_or all h []

pub load_more : {all now next : Store} {i : ℕ} (b : List ℕ) → Loaded all now i → i < length all → b ≡ get_or all i [] → next ≡ set now i b → Loaded all next (i + 1)
load_more {all} {now} {next} {i} b so_far l is wrote =
    record {
      long = ap length wrote ∙ length-set now i b ∙ so_far.long;
      in' =
          λ h k.
          ⊎_elim
          (λ (m : h < i). ap (λ s. get_or s h []) wrote ∙ get_or-set_other now i h b [] (λ e. omega arith) ∙ so_far.in' h m)
          (λ (m : i ≤ h). let e : h ≡ i = omega arith in subst (λ x. get_or next x [] ≡ get_or all x []) (sym e) (ap (λ s. get_or s i []) wrote ∙ get_or-set_same now i b [] (omega (arith, so_far.long)) ∙ is))
          (cases_lt h i);
    }

pub load_all : {all now : Store} {i : ℕ} → Loaded all now i → length all ≤ i → now ≡ all
load_all {all} {now} {i} so_far l = ext_get_or [] now all so_far.long (λ h k. so_far.in' h (omega (arith, so_far.long)))

pub load_none : (ns : List ℕ) (all now : Store) → store_fits ns all ≡ true → map length now ≡ ns → Loaded all now 0
load_none ns all now fits sized =
    record { long = sym (length-map now length) ∙ ap length sized ∙ sym (store_length ns all fits); in' = λ h l. absurd (not-suc-le-zero l) }

-- a header that was read
pub record Fits (ns : List ℕ) (bs : List ℕ) (h : ℕ) : Type 0 where
  pub known : h < length ns
  pub wide : length bs ≡ get_or ns h 0
  pub bits : are_bits bs ≡ true

pub header_read : (ns : List ℕ) (hs : List (Vec ℕ Global)) → store_fits ns (map vec_items hs) ≡ true → {h : ℕ} {v : Vec ℕ Global} → h < length hs → v ≡ get_or hs h v
    → (vec_items v ≡ get_or (map vec_items hs) h []) × Fits ns (vec_items v) h
header_read ns hs fits {h} {v} l read =
    let is : vec_items v ≡ get_or (map vec_items hs) h [] = ap vec_items read ∙ sym (get_or-map vec_items hs h v [] l) in
    let there : h < length (map vec_items hs) = omega (arith, length-map hs vec_items) in
    let f = header_fits ns (map vec_items hs) fits h there in
    (is, record { known = omega (arith, store_length ns (map vec_items hs) fits); wide = ap length is ∙ f.0; bits = ap are_bits is ∙ f.1 })
