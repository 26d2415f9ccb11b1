-- The line that is printed for an answer, without the line's end. Assumes nothing.
use Rattle.std.specs.Prelude.{ℕ, ◌+◌, true, false, List, [], ◌∷◌, ◌++◌, map, codes, decimal}
use Rattle.model.specs.Parser.{Bits, Store}
use Rattle.model.specs.Request.{Answer, refused, verdict, equivalent, distinguished, exhausted}

-- each bit as a digit
abbrev pub digits : Bits → List ℕ
digits bs = map (λ b. 48 + b) bs

abbrev pub message_text : Bits → List ℕ
message_text [] = codes "-"
message_text (b ∷ bs) = digits (b ∷ bs)

-- further headers, each after a comma
abbrev pub more_text : Store → List ℕ
more_text [] = []
more_text (bs ∷ s) = codes "," ++ (digits bs ++ more_text s)

abbrev pub store_text : Store → List ℕ
store_text [] = codes "-"
store_text (bs ∷ s) = digits bs ++ more_text s

abbrev pub line_of : Answer → List ℕ
line_of (refused n k) = codes "refused " ++ (decimal n ++ (codes " at " ++ decimal k))
line_of (verdict true) = codes "yes"
line_of (verdict false) = codes "no"
line_of (equivalent w r) = codes "alike work=" ++ (decimal w ++ (codes " room=" ++ decimal r))
line_of (distinguished s t bs w r) =
    codes "unlike first=" ++ (store_text s ++ (codes " second=" ++ (store_text t ++ (codes " message=" ++ (message_text bs ++ (codes " work=" ++ (decimal w ++ (codes " room=" ++ decimal r))))))))
line_of (exhausted w r) = codes "neither work=" ++ (decimal w ++ (codes " room=" ++ decimal r))
