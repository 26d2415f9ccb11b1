use Rattle.std.proofs.Common.{rules, ◌≡◌, ℕ, ◌⊎◌, ◌<◌, ◌≤◌, ◌+◌, ◌-◌, List, Option, Some, None, Bor, length, get_or, take, drop, ap, ◌∙◌, ⊎_elim, arith, length-drop}
use Rattle.std.proofs.lemmas.List.{take_all, length-take}
use Rattle.std.specs.Prelude.{MatchOption, slice_range}
use Rattle.clauses.specs.Clauses.{Stands, part, clause_at}
use Rattle.clauses.proofs.lists.list_at.Goals as goal

abbrev rest : List ℕ → ℕ → List ℕ
rest numbers s = take (length numbers - (s + 1)) (drop (s + 1) numbers)

long : (numbers : List ℕ) (s : ℕ) → length (rest numbers s) ≡ length numbers - (s + 1)
long numbers s = omega (arith, length-take (length numbers - (s + 1)) (drop (s + 1) numbers), length-drop (s + 1) numbers)

-- what `get` says of the numbers behind the length
found : (numbers : List ℕ) (s n : ℕ) (r : Option (Bor (List ℕ))) → s < length numbers → n ≡ get_or numbers s 0 → MatchOption r ((n < 0) ⊎ (length (rest numbers s) < n)) (λ x. (0 ≤ n) × (n ≤ length (rest numbers s)) × (x.now ≡ slice_range (rest numbers s) 0 n) × (length x.now + 0 ≡ n)) → MatchOption r (Stands numbers s → ⊥) (λ list. Stands numbers s × (list.now ≡ clause_at numbers s))
unfolding part
found numbers s n None within is h = λ stands. ⊎_elim (λ lt. omega arith) (λ lt. omega (arith, long numbers s)) h
found numbers s n (Some x) within is h =
    let stands : Stands numbers s = omega (arith, h.1, long numbers s) in
    let all : n - 0 ≡ n = omega arith in
    (stands, h.2 ∙ ap (λ m. take m (rest numbers s)) all ∙ ap (take n) (take_all (length numbers - (s + 1)) (drop (s + 1) numbers) (omega (arith, length-drop (s + 1) numbers))) ∙ ap (λ x. take x (drop (s + 1) numbers)) is)

pub returns : goal.returns
returns c =
    let within : c.args.s < length c.args.numbers.now = search rules in
    let n : c.in_ok-n.field-0.now ≡ get_or c.args.numbers.now c.args.s 0 = search rules in
    found c.args.numbers.now c.args.s c.in_ok-n.field-0.now c.get-2.result within n c.get-2.ensures.lookup.0
