-- What is in the headers of both parsers, written one before the other.
use Rattle.std.proofs.Common.{◌≡◌, ℕ, ◌+◌, ◌/◌, ◌%◌, ◌^◌, ◌≤◌, List, get_or, ap, ◌∙◌, subst, inr, mul_comm, arith}
use Rattle.model.specs.Refusal.{sum}
use Rattle.model.specs.Promise.{config_count}
use Rattle.machine.specs.View.{sizes_in}
use Rattle.theory.specs.Number.{number_bits, parted}
use Rattle.rows.specs.Row.{store_in, store_end}
use Rattle.product.specs.Pair.{header_number}
use Rattle.product.specs.declared.product.Product.{Product}
use Rattle.compare.specs.Pieces.{Narrow, Outside, store_words}
use Rattle.compare.specs.Headed.{Headed, first_in, second_in}
use Rattle.product.proofs.Exponents.{count_some}
use Rattle.product.proofs.Joining.{both_small}
use Rattle.compare.proofs.Narrowing.{narrow}
use Rattle.compare.proofs.Suffix.{store_same, store_end_same}

module _ (s : Product) where
  pub first_narrow : Narrow (sizes_in s.first.side.machine)
  first_narrow = narrow (first_in s) s.first.side.machine.checked.right (config_count (second_in s)) (count_some (second_in s)) (both_small s)

  pub second_narrow : Narrow (sizes_in s.second.side.machine)
  second_narrow =
      narrow (second_in s) s.second.side.machine.checked.right (config_count (first_in s)) (count_some (first_in s))
      (subst (λ n. n ≤ 2 ^ 60) (mul_comm (config_count (first_in s)) (config_count (second_in s))) (both_small s))

  -- the second's headers were written into `before`, which was `middle` then, and the first's before them
  module _ (pair at : ℕ) (before middle room : List ℕ) (x y : ℕ)
      (x_is : x ≡ header_number (first_in s) (pair / config_count (second_in s))) (y_is : y ≡ header_number (second_in s) (pair % config_count (second_in s))) where
    pub headed : (let m : List ℕ = sizes_in s.first.side.machine in let n : List ℕ = sizes_in s.second.side.machine in
        store_in middle (at + store_words m) ≡ parted n (number_bits (sum n) y) → store_end middle (at + store_words m) ≡ (at + store_words m) + store_words n → Outside n (at + store_words m) before middle
        → store_in room at ≡ parted m (number_bits (sum m) x) → store_end room at ≡ at + store_words m → Outside m at middle room → Headed s pair at before room)
    headed stored₂ end₂ others₂ stored₁ end₁ others₁ =
        let m : List ℕ = sizes_in s.first.side.machine in
        let n : List ℕ = sizes_in s.second.side.machine in
        let later : (k : ℕ) → at + store_words (sizes_in s.first.side.machine) ≤ k → get_or room k 0 ≡ get_or middle k 0 = λ k l. others₁ k (inr l) in
        record {
          first = stored₁ ∙ ap (λ z. parted m (number_bits (sum m) z)) x_is;
          second = ap (store_in room) end₁ ∙ store_same middle room (at + store_words m) later ∙ stored₂ ∙ ap (λ z. parted n (number_bits (sum n) z)) y_is;
          end = ap (store_end room) end₁ ∙ store_end_same middle room (at + store_words m) later ∙ end₂ ∙ (omega arith);
          rest = λ k l. others₁ k (inr (omega arith)) ∙ others₂ k (inr (omega arith));
        }
