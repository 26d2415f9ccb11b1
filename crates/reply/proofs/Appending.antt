-- Bytes written one after another: each step of a loop, and things in a row.
use Rattle.std.proofs.Common.{◌≡◌, ℕ, zero, suc, ◌+◌, ◌-◌, ◌<◌, ◌≤◌, List, [], ◌∷◌, ◌++◌, length, get_or, drop, sym, refl, ap, ◌∙◌, add-one, arith}
use Rattle.std.proofs.lemmas.List.{append_assoc, append-nil}
use Rattle.format.specs.Written.{number, many, row, store}
use Rattle.reply.specs.Appends.{Appends}
use Rattle.reply.specs.Front.{front_row, past_row, front_rows, past_rows, front_store, past_store}
use Rattle.rows.specs.Row.{bit_in, bits_in}

-- a byte was pushed
pub pushed : (before after : List ℕ) (x : ℕ) (rest : List ℕ) → after ≡ before ++ x ∷ [] → after ++ rest ≡ before ++ x ∷ rest
pushed before after x rest e = ap (λ l. l ++ rest) e ∙ append_assoc before (x ∷ []) rest

-- one thing, and then another
pub both : (f g : List ℕ → List ℕ) (a b c : List ℕ) → Appends f a b → Appends g b c → Appends (λ rest. f (g rest)) a c
both f g a b c p q rest = q rest ∙ p (g rest)

-- and then nothing
pub whole : (f : List ℕ → List ℕ) (a b : List ℕ) → Appends f a b → b ≡ a ++ f []
whole f a b p = sym (append-nil b) ∙ p []

-- an answer's number, and its values
pub tagged : (tag : ℕ) (f : List ℕ → List ℕ) (a b c bytes : List ℕ) → Appends (number 1 tag) a b → Appends f b c → number 1 tag (f []) ≡ bytes → c ≡ a ++ bytes
tagged tag f a b c bytes p q e = whole (λ rest. number 1 tag (f rest)) a c (both (number 1 tag) f a b c p q) ∙ ap (λ l. a ++ l) e

-- no bit of a row of n, and one more
pub bits_none : (a ws : List ℕ) (n : ℕ) (rest : List ℕ) → a ++ (bits_in ws 0 (n - 0) ++ rest) ≡ a ++ (bits_in ws 0 n ++ rest)
bits_none a ws n rest = let z : n - 0 ≡ n = omega arith in ap (λ m. a ++ (bits_in ws 0 m ++ rest)) z

pub bits_more : (a b c ws : List ℕ) (n k x : ℕ) → k < n → x ≡ bit_in ws k → c ≡ b ++ x ∷ []
    → ((rest : List ℕ) → b ++ (bits_in ws k (n - k) ++ rest) ≡ a ++ (bits_in ws 0 n ++ rest)) → (rest : List ℕ) → c ++ (bits_in ws (k + 1) (n - (k + 1)) ++ rest) ≡ a ++ (bits_in ws 0 n ++ rest)
bits_more a b c ws n k x l is e so_far rest =
    let s : n - k ≡ suc (n - (k + 1)) = omega arith in
    ap (λ j. c ++ (bits_in ws j (n - (k + 1)) ++ rest)) (add-one k)
    ∙ pushed b c x (bits_in ws (suc k) (n - (k + 1)) ++ rest) e
    ∙ ap (λ y. b ++ y ∷ (bits_in ws (suc k) (n - (k + 1)) ++ rest)) is
    ∙ ap (λ m. b ++ (bits_in ws k m ++ rest)) (sym s)
    ∙ so_far rest

pub length_bits : (ws : List ℕ) (k n : ℕ) → length (bits_in ws k n) ≡ n
length_bits ws k zero = refl
length_bits ws k (suc n) = ap suc (length_bits ws (suc k) n)

-- all bits of a row, after how many there are
pub row_all : (a b c ws : List ℕ) (w n k : ℕ) → n ≤ k → Appends (number w n) a b
    → ((rest : List ℕ) → c ++ (bits_in ws k (n - k) ++ rest) ≡ b ++ (bits_in ws 0 n ++ rest)) → Appends (row w (bits_in ws 0 n)) a c
row_all a b c ws w n k l counted so_far rest =
    let z : 0 ≡ n - k = omega arith in
    ap (λ m. c ++ (bits_in ws k m ++ rest)) z
    ∙ so_far rest
    ∙ counted (bits_in ws 0 n ++ rest)
    ∙ ap (λ m. a ++ number w m (bits_in ws 0 n ++ rest)) (sym (length_bits ws 0 n))

-- the rows of n headers of which i were written
pub record Stored (before : List ℕ) (part : List ℕ) (n i : ℕ) (now_bytes now_part : List ℕ) : Type 0 where
  pub bytes : (rest : List ℕ) → now_bytes ++ many (row 2) (front_rows (n - i) now_part) rest ≡ before ++ many (row 2) (front_rows n part) rest
  pub after : past_rows (n - i) now_part ≡ past_rows n part

pub stored_none : (before part : List ℕ) (n : ℕ) → Stored before part n 0 before part
stored_none before part n =
    let z : n - 0 ≡ n = omega arith in
    record { bytes = λ rest. ap (λ m. before ++ many (row 2) (front_rows m part) rest) z; after = ap (λ m. past_rows m part) z }

pub stored_more : (before part : List ℕ) (n i : ℕ) (b p c q : List ℕ) {bs : List ℕ} → i < n → bs ≡ front_row p → Appends (row 2 bs) b c → q ≡ past_row p → Stored before part n i b p → Stored before part n (i + 1) c q
stored_more before part n i b p c q l row_is wrote is so_far =
    let s : suc (n - (i + 1)) ≡ n - i = omega arith in
    record {
      bytes = λ rest.
          ap (λ v. c ++ many (row 2) (front_rows (n - (i + 1)) v) rest) is
          ∙ wrote (many (row 2) (front_rows (n - (i + 1)) (past_row p)) rest)
          ∙ ap (λ bs. b ++ row 2 bs (many (row 2) (front_rows (n - (i + 1)) (past_row p)) rest)) row_is
          ∙ ap (λ m. b ++ many (row 2) (front_rows m p) rest) s
          ∙ so_far.bytes rest;
      after = ap (past_rows (n - (i + 1))) is ∙ ap (λ m. past_rows m p) s ∙ so_far.after;
    }

length_rows : (n : ℕ) (part : List ℕ) → length (front_rows n part) ≡ n
length_rows zero part = refl
length_rows (suc n) part = ap suc (length_rows n (past_row part))

-- all rows, after how many headers there are
module _ (a b c part first p : List ℕ) (n i : ℕ) (is : n ≡ get_or part 0 0) (first_is : first ≡ drop 1 part) (l : n ≤ i) (so_far : Stored b first n i c p) where
  pub stored_after : p ≡ past_store part
  stored_after =
      let z : 0 ≡ n - i = omega arith in
      ap (λ m. past_rows m p) z ∙ so_far.after ∙ ap (past_rows n) first_is ∙ ap (λ m. past_rows m (drop 1 part)) is

  pub stored_all : Appends (number 2 n) a b → Appends (store (front_store part)) a c
  stored_all counted rest =
      let z : 0 ≡ n - i = omega arith in
      let whole_store : front_rows n first ≡ front_store part = ap (front_rows n) first_is ∙ ap (λ m. front_rows m (drop 1 part)) is in
      ap (λ m. c ++ many (row 2) (front_rows m p) rest) z
      ∙ so_far.bytes rest
      ∙ counted (many (row 2) (front_rows n first) rest)
      ∙ ap (λ m. a ++ number 2 m (many (row 2) (front_rows n first) rest)) (sym (length_rows n first))
      ∙ ap (λ s. a ++ store s rest) whole_store
