-- What is worked out of a parser once, before it runs. Assumes nothing.
use Rattle.std.specs.Prelude.{ℕ, ◌+◌, List, [], ◌∷◌, map}
use Rattle.model.specs.Parser.{Parser, width}

-- where each header begins, the first at bit k
abbrev pub starts_from : ℕ → List ℕ → List ℕ
starts_from k [] = []
starts_from k (n ∷ ns) = k ∷ starts_from (k + n) ns

-- how many bits each state takes
abbrev pub widths_of : Parser → List ℕ
widths_of p = map (width p) p.states
