-- Bits and headers as text: each step of a loop, and all of them.
use Rattle.std.proofs.Common.{◌≡◌, ℕ, suc, ◌+◌, ◌-◌, ◌/◌, ◌%◌, ◌^◌, ◌<◌, ◌≤◌, List, [], ◌∷◌, ◌++◌, get_or, drop, codes, decimal, sym, ap, ◌∙◌, add-one, arith}
use Rattle.std.proofs.lemmas.Nat.{mod_below}
use Rattle.std.proofs.lemmas.List.{append_assoc, append-nil}
use Rattle.reply.specs.Front.{front_row, past_row, front_rows, past_rows, front_store, past_store}
use Rattle.reply.specs.Printed.{digits, more_text, store_text, message_text, line_of}
use Rattle.rows.specs.Row.{bit_in, bits_in, store_in, store_end}
use Rattle.reply.specs.View.{answer_of}
use Rattle.reply.specs.declared.answer.Answer.TheVariants.{Unlike}
use Rattle.reply.proofs.Appending.{pushed}
use Rattle.reply.proofs.Parts.{row_drop, store-drop, past_store-drop}

-- what was put into an empty text
pub from_empty : (b c t : List ℕ) → b ≡ [] → c ≡ b ++ t → c ≡ t
from_empty b c t e f = f ∙ ap (λ l. l ++ t) e

-- a character of one byte was pushed
pub char_pushed : (b c e : List ℕ) (x : ℕ) → (x < 128 → e ≡ x ∷ []) → x < 128 → c ≡ b ++ e → c ≡ b ++ x ∷ []
char_pushed b c e x ascii l f = f ∙ ap (λ t. b ++ t) (ascii l)

-- a bit's digit is one byte
pub digit_small : (ws : List ℕ) (k x : ℕ) → x ≡ bit_in ws k → 48 + x < 128
digit_small ws k x is = omega (arith, mod_below (get_or ws (k / 64) 0 / 2 ^ (k % 64)) 2 (omega arith))

-- no bit of a row of n, one more, and all
pub digits_none : (a ws : List ℕ) (n : ℕ) → a ++ digits (bits_in ws 0 (n - 0)) ≡ a ++ digits (bits_in ws 0 n)
digits_none a ws n = let z : n - 0 ≡ n = omega arith in ap (λ m. a ++ digits (bits_in ws 0 m)) z

pub digits_more : (b c ws whole : List ℕ) (n k x : ℕ) → k < n → x ≡ bit_in ws k → c ≡ b ++ (48 + x) ∷ [] → b ++ digits (bits_in ws k (n - k)) ≡ whole → c ++ digits (bits_in ws (k + 1) (n - (k + 1))) ≡ whole
digits_more b c ws whole n k x l is e so_far =
    let s : n - k ≡ suc (n - (k + 1)) = omega arith in
    ap (λ j. c ++ digits (bits_in ws j (n - (k + 1)))) (add-one k)
    ∙ pushed b c (48 + x) (digits (bits_in ws (suc k) (n - (k + 1)))) e
    ∙ ap (λ y. b ++ (48 + y) ∷ digits (bits_in ws (suc k) (n - (k + 1)))) is
    ∙ ap (λ m. b ++ digits (bits_in ws k m)) (sym s)
    ∙ so_far

pub digits_all : (a c ws : List ℕ) (n k : ℕ) → n ≤ k → c ++ digits (bits_in ws k (n - k)) ≡ a ++ digits (bits_in ws 0 n) → c ≡ a ++ digits (bits_in ws 0 n)
digits_all a c ws n k l so_far = let z : 0 ≡ n - k = omega arith in sym (append-nil c) ∙ ap (λ m. c ++ digits (bits_in ws k m)) z ∙ so_far

-- headers' contents at the front of a part, of which the last `left` are still to be shown
pub record Listed (part : List ℕ) (left : ℕ) (text rest : List ℕ) : Type 0 where
  pub shown : text ++ more_text (front_rows left rest) ≡ store_text (front_store part)
  pub after : past_rows left rest ≡ past_store part

-- the first of n
pub listed_first : (part first text rest : List ℕ) (n : ℕ) → n ≡ get_or part 0 0 → first ≡ drop 1 part → (n ≡ 0 → ⊥) → text ≡ digits (front_row first) → rest ≡ past_row first → Listed part (n - 1) text rest
listed_first part first text rest n is first_is some text-is rest_is =
    let s : suc (n - 1) ≡ n = omega arith in
    record {
      shown = ap (λ t. t ++ more_text (front_rows (n - 1) rest)) text-is
          ∙ ap (λ r. digits (front_row first) ++ more_text (front_rows (n - 1) r)) rest_is
          ∙ ap (λ m. store_text (front_rows m first)) (s ∙ is)
          ∙ ap (λ p. store_text (front_rows (get_or part 0 0) p)) first_is;
      after = ap (past_rows (n - 1)) rest_is ∙ ap (λ m. past_rows m first) (s ∙ is) ∙ ap (past_rows (get_or part 0 0)) first_is;
    }

-- one more, after a comma
pub listed_more : (part b c d p q : List ℕ) (n i : ℕ) → i < n → c ≡ b ++ codes "," → d ≡ c ++ digits (front_row p) → q ≡ past_row p → Listed part (n - i) b p → Listed part (n - (i + 1)) d q
listed_more part b c d p q n i l comma wrote is so_far =
    let m : ℕ = n - (i + 1) in
    let s : suc m ≡ n - i = omega arith in
    record {
      shown = ap (λ r. d ++ more_text (front_rows m r)) is
          ∙ ap (λ t. t ++ more_text (front_rows m (past_row p))) (wrote ∙ ap (λ t. t ++ digits (front_row p)) comma)
          ∙ append_assoc (b ++ codes ",") (digits (front_row p)) (more_text (front_rows m (past_row p)))
          ∙ append_assoc b (codes ",") (digits (front_row p) ++ more_text (front_rows m (past_row p)))
          ∙ ap (λ k. b ++ more_text (front_rows k p)) s
          ∙ so_far.shown;
      after = ap (past_rows m) is ∙ ap (λ k. past_rows k p) s ∙ so_far.after;
    }

-- none is left
module _ (part text rest : List ℕ) (n i : ℕ) (l : n ≤ i) (so_far : Listed part (n - i) text rest) where
  pub listed_text : text ≡ store_text (front_store part)
  listed_text =
      let z : 0 ≡ n - i = omega arith in
      sym (append-nil text) ∙ ap (λ k. text ++ more_text (front_rows k rest)) z ∙ so_far.shown

  pub listed_after : rest ≡ past_store part
  listed_after = let z : 0 ≡ n - i = omega arith in ap (λ k. past_rows k rest) z ∙ so_far.after

-- a message that isn't empty
pub message_some : (ws : List ℕ) (n : ℕ) → (n ≡ 0 → ⊥) → digits (bits_in ws 0 n) ≡ message_text (bits_in ws 0 n)
message_some ws n some = let s : n ≡ suc (n - 1) = omega arith in ap (λ m. digits (bits_in ws 0 m)) s ∙ ap (λ m. message_text (bits_in ws 0 m)) (sym s)

-- the texts of both headers' contents and of the message, which stand one after the other
abbrev pub unlike_text : List ℕ → List ℕ → List ℕ → ℕ → ℕ → List ℕ
unlike_text first second message w r =
    codes "unlike first=" ++ (first ++ (codes " second=" ++ (second ++ (codes " message=" ++ (message ++ (codes " work=" ++ (decimal w ++ (codes " room=" ++ decimal r))))))))

module _ (room : List ℕ) (at w r : ℕ) (part first rest second end message : List ℕ) where
  pub unlike_line : part ≡ drop at room → first ≡ store_text (front_store part) → rest ≡ past_store part → second ≡ store_text (front_store rest) → end ≡ past_store rest → message ≡ message_text (front_row end)
      → unlike_text first second message w r ≡ line_of (answer_of room (Unlike at w r))
  unlike_line part_is first_is rest_is second_is end_is message_is =
      let rest_at : rest ≡ drop (store_end room at) room = rest_is ∙ ap past_store part_is ∙ past_store-drop room at in
      let end_at : end ≡ drop (store_end room (store_end room at)) room = end_is ∙ ap past_store rest_at ∙ past_store-drop room (store_end room at) in
      ap (λ t. unlike_text t second message w r) (first_is ∙ ap (λ p. store_text (front_store p)) part_is ∙ ap store_text (store-drop room at))
      ∙ ap (λ t. unlike_text (store_text (store_in room at)) t message w r) (second_is ∙ ap (λ p. store_text (front_store p)) rest_at ∙ ap store_text (store-drop room (store_end room at)))
      ∙ ap (λ t. unlike_text (store_text (store_in room at)) (store_text (store_in room (store_end room at))) t w r) (message_is ∙ ap (λ p. message_text (front_row p)) end_at ∙ ap message_text (row_drop room (store_end room (store_end room at))))
