-- The sum and the greatest number of a list, as the model has them. Assumes nothing.
use Rattle.std.proofs.Common.{◌≡◌, ℕ, ◌+◌, max, List, [], ◌∷◌, map, ◌∙◌, arith}
use Rattle.std.specs.List.{fold, sum as sum_of}
use Rattle.model.specs.Parser.{State, ops_width}
use Rattle.model.specs.Refusal.{sum, widest}

sum_from : (a : ℕ) (ns : List ℕ) → fold (λ m n. m + n) a ns ≡ a + sum ns
sum_from a [] = omega arith
sum_from a (n ∷ ns) = sum_from (a + n) ns ∙ omega arith

pub sum_is : (ns : List ℕ) → sum_of ns ≡ sum ns
sum_is ns = let e : 0 + sum ns ≡ sum ns = omega arith in sum_from 0 ns ∙ e

widest_from : (ns : List ℕ) (a : ℕ) (zs : List State) → fold max a (map (λ z. ops_width ns z.ops) zs) ≡ max a (widest ns zs)
widest_from ns a [] = omega arith
widest_from ns a (z ∷ zs) = widest_from ns (max a (ops_width ns z.ops)) zs ∙ omega arith

pub widest_is : (ns : List ℕ) (zs : List State) → fold max 0 (map (λ z. ops_width ns z.ops) zs) ≡ widest ns zs
widest_is ns zs = let e : max 0 (widest ns zs) ≡ widest ns zs = omega arith in widest_from ns 0 zs ∙ e
