-- Lists that are read one after the other.
use Rattle.std.proofs.Common.{◌≡◌, ℕ, ◌+◌, ◌<◌, ◌≤◌, List, length, get_or, drop, ap, ◌∙◌, arith, length-drop}
use Rattle.std.proofs.lemmas.List.{length-take}
use Rattle.clauses.specs.Clauses.{Stands, part, clause_at}
use Rattle.clauses.specs.Steps.{ReadOn}
use Rattle.clauses.specs.declared.lists.Lists.{Lists}

-- a list that stands ends within the numbers
list_inside : (numbers : List ℕ) (s : ℕ) → Stands numbers s → s + 1 + length (clause_at numbers s) ≤ length numbers
unfolding part
list_inside numbers s h = omega (arith, h, length-take (get_or numbers s 0) (drop (s + 1) numbers), length-drop (s + 1) numbers)

pub read_number : (l l₁ : Lists) → l₁.numbers ≡ l.numbers → l.at < length l.numbers.now → l₁.at ≡ l.at + 1 → ReadOn l l₁
read_number l l₁ same within at = record { numbers = same; ahead = omega (arith, at); inside = omega (arith, at, within) }

pub read_list : (l l₁ : Lists) (list : List ℕ) → l₁.numbers ≡ l.numbers → Stands l.numbers.now l.at → list ≡ clause_at l.numbers.now l.at → l₁.at ≡ l.at + 1 + length list → ReadOn l l₁
read_list l l₁ list same stands is at =
    let end : l.at + 1 + length list ≤ length l.numbers.now = omega (arith, list_inside l.numbers.now l.at stands, ap length is) in
    record { numbers = same; ahead = omega (arith, at); inside = omega (arith, at, end) }

pub read_both : (l l₁ l₂ : Lists) → ReadOn l l₁ → ReadOn l₁ l₂ → ReadOn l l₂
read_both l l₁ l₂ g h = record {
  numbers = h.numbers ∙ g.numbers;
  ahead = omega (arith, g.ahead, h.ahead);
  inside = omega (arith, g.ahead, g.inside, h.ahead, h.inside, ap (λ n. length n.now) g.numbers);
}
