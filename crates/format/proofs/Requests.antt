-- Requests and answers are read back.
use Rattle.std.proofs.Common.{◌≡◌, ℕ, ◌≤◌, true, false, leb, List, [], ◌∷◌, length, take, sym, refl, ap, ◌∙◌}
use Rattle.std.proofs.lemmas.Bool.{and_parts, cond-true, le-leb, true≢false}
use Rattle.model.specs.Request.{Request, compare, parse, garbled, Answer, refused, verdict, equivalent, distinguished, exhausted}
use Rattle.format.specs.Read.{got, bind, read_number}
use Rattle.format.specs.Format.{read_request, whole, too_long, asked_from, read_answer, read_left}
use Rattle.format.specs.Written.{number, request, fits, fit_request, RequestsReadBack, AnswersReadBack}
use Rattle.format.proofs.Exprs.{read_byte}
use Rattle.format.proofs.Numbers.{number_back}
use Rattle.format.proofs.Rows.{row_back}
use Rattle.format.proofs.Parsers.{parser_back, store_back}

-- the numbers at the end of a comparison
ends_back : (f : ℕ → ℕ → ℕ → ℕ → Request) (i j w m : ℕ) (rest : List ℕ) → fits 2 i ≡ true → fits 2 j ≡ true → fits 8 w ≡ true → fits 8 m ≡ true
    → bind (read_number 2 (number 2 i (number 2 j (number 8 w (number 8 m rest)))))
    (λ i r. bind (read_number 2 r) (λ j r. bind (read_number 8 r) (λ w r. bind (read_number 8 r) (λ m r. got (f i j w m) r))))
    ≡ got (f i j w m) rest
ends_back f i j w m rest ok_i ok_j ok_w ok_m = rw (number_back 2 i _ ok_i, number_back 2 j _ ok_j, number_back 8 w _ ok_w, number_back 8 m rest ok_m)

request_back : (q : Request) → fit_request q ≡ true → read_request (request q) ≡ got q []
request_back (parse p s q bs) ok =
    let h = and_parts _ _ ok in
    let k = and_parts _ _ h.1 in
    let l = and_parts _ _ k.1 in
    rw (read_byte, parser_back p _ h.0, store_back s _ k.0, number_back 2 q _ l.0, row_back 4 bs [] l.1)
request_back (compare c) ok =
    let h = and_parts _ _ ok in
    let k = and_parts _ _ h.1 in
    let l = and_parts _ _ k.1 in
    let m = and_parts _ _ l.1 in
    let n = and_parts _ _ m.1 in
    rw (read_byte, parser_back c.first _ h.0, parser_back c.second _ k.0)
    (ends_back (λ i j w m. compare (record { first = c.first; second = c.second; first_state = i; second_state = j; work = w; room = m }))
    c.first_state c.second_state c.work c.room [] l.0 m.0 n.0 n.1)
request_back (garbled n) ok = absurd (true≢false (sym ok))

-- what short enough bytes ask
pub asked_short : (bs : List ℕ) → length bs ≤ 1048576 → asked_from bs ≡ whole (length bs) (read_request bs)
asked_short bs l = cond-true (leb (length bs) 1048576) (whole (length bs) (read_request bs)) (too_long (whole 1048576 (read_request (take 1048576 bs)))) (le-leb (length bs) 1048576 l)

pub requests_read_back : RequestsReadBack
unfolding RequestsReadBack
requests_read_back q ok short = asked_short (request q) short ∙ ap (whole (length (request q))) (request_back q ok)

-- what is left, at the end of an answer
left_back : (f : ℕ → ℕ → Answer) (w r : ℕ) (rest : List ℕ) → fits 8 w ≡ true → fits 8 r ≡ true → read_left f (number 8 w (number 8 r rest)) ≡ got (f w r) rest
left_back f w r rest ok_w ok_r = rw (number_back 8 w _ ok_w, number_back 8 r rest ok_r)

refused_back : (n k : ℕ) (rest : List ℕ) → fits 1 n ≡ true → fits 8 k ≡ true → read_answer (0 ∷ number 1 n (number 8 k rest)) ≡ got (refused n k) rest
refused_back n k rest ok_n ok_k = rw (read_byte, number_back 1 n _ ok_n, number_back 8 k rest ok_k)

pub answers_read_back : AnswersReadBack
unfolding AnswersReadBack
answers_read_back (refused n k) ok =
    let h = and_parts _ _ ok in
    refused_back n k [] h.0 h.1
answers_read_back (verdict false) ok = refl
answers_read_back (verdict true) ok = refl
answers_read_back (equivalent w r) ok =
    let h = and_parts _ _ ok in
    left_back equivalent w r [] h.0 h.1
answers_read_back (distinguished s t bs w r) ok =
    let h = and_parts _ _ ok in
    let k = and_parts _ _ h.1 in
    let l = and_parts _ _ k.1 in
    let m = and_parts _ _ l.1 in
    rw (read_byte, store_back s _ h.0, store_back t _ k.0, row_back 8 bs _ l.0) (left_back (distinguished s t bs) w r [] m.0 m.1)
answers_read_back (exhausted w r) ok =
    let h = and_parts _ _ ok in
    left_back exhausted w r [] h.0 h.1
