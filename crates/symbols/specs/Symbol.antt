-- Symbols: 0 and 1 are those bits, and 2 + k is the bit at position k. Assumes nothing.
-- Evaluating and running ops only copy bits, so the definitions for bits, run on rows of symbols, are those for symbols: nothing is defined twice.
use Rattle.std.specs.Prelude.{ℕ, zero, suc, ◌+◌, ◌<◌, Bool, true, false, ◌&&◌, List, [], ◌∷◌, ◌++◌, map, ◌==◌, nat_lt}
use Rattle.model.specs.Parser.{Bits, Expr, Pattern, exactly, any, Store, value}

-- the symbol of a position
abbrev pub symbol : ℕ → ℕ
symbol k = 2 + k

-- the bit that a symbol stands for, once each position has a bit
abbrev pub sense : (ℕ → ℕ) → ℕ → ℕ
sense ν zero = 0
sense ν (suc zero) = 1
sense ν (suc (suc k)) = ν k

abbrev pub row_sense : (ℕ → ℕ) → List ℕ → Bits
row_sense ν = map (sense ν)

abbrev pub store_sense : (ℕ → ℕ) → List (List ℕ) → Store
store_sense ν = map (row_sense ν)

-- the first n places of a row hold 0, 1 or positions below `top`
abbrev pub Below : ℕ → (ℕ → ℕ) → ℕ → Type 0
Below top f n = (i : ℕ) → i < n → f i < 2 + top

-- symbols, each followed by the bit that it must have
abbrev pub paired : List ℕ → Bits → List ℕ
paired [] bs = []
paired (x ∷ xs) [] = []
paired (x ∷ xs) (b ∷ bs) = x ∷ b ∷ paired xs bs

-- what must hold for select keys to match patterns
abbrev pub condition_of : List (List ℕ) → List Expr → List Pattern → List ℕ
condition_of s [] ps = []
condition_of s (e ∷ es) [] = []
condition_of s (e ∷ es) (any ∷ ps) = condition_of s es ps
condition_of s (e ∷ es) (exactly bs ∷ ps) = paired (value s e) bs ++ condition_of s es ps

-- does each symbol stand for the bit that follows it
abbrev pub holds : (ℕ → ℕ) → List ℕ → Bool
holds ν [] = true
holds ν (x ∷ []) = true
holds ν (x ∷ b ∷ xs) = sense ν x == b && holds ν xs

-- is each a symbol of a position below `top`, or a constant, followed by a bit
abbrev pub are_pairs : ℕ → List ℕ → Bool
are_pairs top [] = true
are_pairs top (x ∷ []) = false
are_pairs top (x ∷ b ∷ xs) = (nat_lt x (2 + top) && nat_lt b 2) && are_pairs top xs
