-- The offset of bytes that are no request: those before it are the beginning of one, and with the byte that stands there they are not.
use Rattle.std.proofs.Common.{◌≡◌, ℕ, zero, suc, ◌+◌, ◌-◌, ◌<◌, ◌≤◌, List, [], ◌∷◌, ◌++◌, length, get_or, take, sym, ap, ◌∙◌, subst, arith}
use Rattle.std.proofs.lemmas.List.{append-nil, append_assoc, length-append, length_push, take_at}
use Rattle.model.specs.Parser.{Parser, Store}
use Rattle.model.specs.Request.{Comparison, Request, compare, parse, garbled}
use Rattle.format.specs.Read.{Read, got, failed, bind, read_number, read_row}
use Rattle.format.specs.Format.{read_parser, read_store, read_parse, read_compare, read_request, whole, asked_from}
use Rattle.format.specs.Ceases.{Ceases, Begins}
use Rattle.format.proofs.Exprs.{read_tag}
use Rattle.format.proofs.Requests.{asked_short}
use Rattle.format.proofs.Local.{Begun, LocalAt}
use Rattle.format.proofs.Readers.{request_local}

-- what was got is not what stands for garbled bytes
data Proper : Read Request → Type 0 where
  a_parse : {p : Parser} {s : Store} {q : ℕ} {bs rest : List ℕ} → Proper (got (parse p s q bs) rest)
  a_compare : {c : Comparison} {rest : List ℕ} → Proper (got (compare c) rest)
  none : {rest : List ℕ} → Proper (failed rest)

then : {X : Type 0} (x : Read X) {f : X → List ℕ → Read Request} → ((y : X) (rest : List ℕ) → Proper (f y rest)) → Proper (bind x f)
then (got x rest) next = next x rest
then (failed rest) next = none

proper_tagged : (bs r : List ℕ) (b : ℕ) → Proper (get_or (read_parse r ∷ read_compare r ∷ []) b (failed bs))
proper_tagged bs r zero = then (read_parser r) (λ p r. then (read_store r) (λ s r. then (read_number 2 r) (λ q r. then (read_row 4 r) (λ b r. a_parse))))
proper_tagged bs r (suc zero) =
    then (read_parser r) (λ p r.
    then (read_parser r) (λ q r. then (read_number 2 r) (λ i r. then (read_number 2 r) (λ j r. then (read_number 8 r) (λ w r. then (read_number 8 r) (λ m r. a_compare))))))
proper_tagged bs r (suc (suc b)) = none

proper_request : (bs : List ℕ) → Proper (read_request bs)
proper_request [] = none
proper_request (b ∷ r) = subst Proper (sym (read_tag (λ bs. read_parse bs ∷ read_compare bs ∷ []) b r)) (proper_tagged (b ∷ r) r b)

-- what is to show of bytes that cease to be a request
pub record Right (bs : List ℕ) (n : ℕ) : Type 0 where
  pub within : n ≤ length bs
  pub begins : (t : List ℕ) × (q : Request) × (read_request (take n bs ++ t) ≡ got q [])
  pub stops : n < length bs → (t : List ℕ) → whole (length (take (n + 1) bs ++ t)) (read_request (take (n + 1) bs ++ t)) ≡ garbled n

module _ (bs p rest : List ℕ) (n : ℕ) (e : bs ≡ p ++ rest) (is : length bs - length rest ≡ n) where
  place : length p ≡ n
  place = omega (arith, ap length e, length-append p rest)

  front : take n bs ≡ p
  front = ap (take n) e ∙ take_at p rest n place

  -- the bytes before are the beginning of one
  begun : Begun read_request p → (t : List ℕ) × (q : Request) × (read_request (take n bs ++ t) ≡ got q [])
  begun (t, q, full) = (t, q, ap (λ x. read_request (x ++ t)) front ∙ ap (λ x. read_request (p ++ x)) (sym (append-nil t)) ∙ full [])

-- with the byte that stands there they are not
stuck : (bs p rest : List ℕ) (b n : ℕ) → bs ≡ p ++ b ∷ rest → length bs - suc (length rest) ≡ n
    → ((k : ℕ) (t : List ℕ) → whole k (read_request (p ++ b ∷ t)) ≡ garbled (k - suc (length t)))
    → (t : List ℕ) → whole (length (take (n + 1) bs ++ t)) (read_request (take (n + 1) bs ++ t)) ≡ garbled n
stuck bs p rest b n e is stops t =
    let at : length p ≡ n = place bs p (b ∷ rest) n e is in
    let one_more : take (n + 1) bs ≡ p ++ b ∷ [] =
    ap (take (n + 1)) (e ∙ sym (append_assoc p (b ∷ []) rest)) ∙ take_at (p ++ b ∷ []) rest (n + 1) (length_push p b ∙ ap (λ k. k + 1) at) in
    let joined : take (n + 1) bs ++ t ≡ p ++ b ∷ t = ap (λ x. x ++ t) one_more ∙ append_assoc p (b ∷ []) t in
    let here : length (p ++ b ∷ t) - suc (length t) ≡ n = omega (arith, length-append p (b ∷ t)) in
    ap (λ x. whole (length x) (read_request x)) joined ∙ stops (length (p ++ b ∷ t)) t ∙ ap garbled here

right_at : (bs : List ℕ) (n : ℕ) (x : Read Request) → LocalAt read_request bs x → Proper x → whole (length bs) x ≡ garbled n → Right bs n
right_at bs n (got (parse p s q i) []) local proper e = let z : ◌≡◌ {A = ℕ} 0 1 = cc in absurd (omega arith)
right_at bs n (got (compare c) []) local proper e = let z : ◌≡◌ {A = ℕ} 0 1 = cc in absurd (omega arith)
right_at bs n (got (garbled m) []) local proper e = elim proper [ ]
right_at bs n (got q (b ∷ rest)) (p, k, same) proper e =
    let is : length bs - suc (length rest) ≡ n = cc in
    record {
      within = omega arith;
      begins = begun bs p (b ∷ rest) n k is ([], q, same);
      stops = λ l. stuck bs p rest b n k is (λ j t. ap (whole j) (same (b ∷ t)));
    }
right_at bs n (failed []) (p, k, stops, whole_of) proper e =
    let is : length bs - 0 ≡ n = cc in
    record { within = omega arith; begins = begun bs p [] n k is whole_of; stops = λ l. absurd (omega arith) }
right_at bs n (failed (b ∷ rest)) (p, k, stops, whole_of) proper e =
    let is : length bs - suc (length rest) ≡ n = cc in
    record {
      within = omega arith;
      begins = begun bs p (b ∷ rest) n k is whole_of;
      stops = λ l. stuck bs p rest b n k is (λ j t. ap (whole j) (stops t));
    }

right : (bs : List ℕ) (n : ℕ) → length bs ≤ 1048576 → asked_from bs ≡ garbled n → Right bs n
right bs n l e = right_at bs n (read_request bs) ((request_local {n = length bs}).on bs (omega arith)) (proper_request bs) (sym (asked_short bs l) ∙ e)

pub ceases : Ceases
unfolding Ceases
ceases bs n l e = ((right bs n l e).within, λ k t m. asked_short (take (n + 1) bs ++ t) m ∙ (right bs n l e).stops k t)

pub begins : Begins
unfolding Begins
begins bs n l e = (right bs n l e).begins
