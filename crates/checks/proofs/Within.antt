-- The limits of a parser, in the order of the code. Assumes nothing.
use Rattle.std.proofs.Common.{◌≡◌, ℕ, ◌+◌, ◌<◌, Bool, ◌&&◌, ltb, leb, List, [], ◌∷◌, map, sym, refl, ap, ◌∙◌, length, vec_items, arith}
use lib.ListN.{length-map}
use Rattle.std.proofs.lemmas.List.Sums.{sum_by-cons}
use Rattle.std.specs.Prelude as std
use Rattle.std.specs.List.{list_all}
use Rattle.model.specs.Parser.{Expr, header, bits, slice, join}
use Rattle.model.specs.Refusal.{every, total, sum, parts_expr, parts_state, shallow_state, within_limits}
use Rattle.syntax.specs.View.{state_of, parser_of}
use Rattle.syntax.specs.declared.ast.State.{State}
use Rattle.syntax.specs.declared.ast.Parser.{Parser}
use Rattle.checks.specs.Measured.{headers_within, states_within}
use Rattle.checks.proofs.Tested.{every_is, every_mapped}
use Rattle.checks.proofs.Totals.{total-map}

-- an expression is a part itself
pub parts_positive : (e : Expr) → 0 < parts_expr e
parts_positive (header h) = omega arith
parts_positive (bits bs) = omega arith
parts_positive (slice e lo hi) = omega arith
parts_positive (join d e) = omega arith

pub states_within_of : (qs : List State) → states_within (map state_of qs) ≡ (leb (length qs) 64 && leb (total (λ q. parts_state (state_of q)) qs) 16384)
states_within_of qs = rw (length-map qs state_of, total-map parts_state state_of qs)

sorted : (a b s n t h : Bool) → (((a && b) && (s && n)) && (t && h)) ≡ (((a && b) && s) && (h && (n && t)))
sorted a b s n t h = grind arith

turned : (a b s : Bool) → ((a && b) && s) ≡ (b && (a && s))
turned a b s = grind arith

total-sum : (ns : List ℕ) → sum ns ≡ std.sum ns
total-sum [] = refl
total-sum (n ∷ ns) = ap (λ k. n + k) (total-sum ns) ∙ sym (sum_by-cons (λ k. k) n ns)

pub within_limits_of : (p : Parser)
    → within_limits (parser_of p)
    ≡ (headers_within (vec_items p.sizes) && (list_all (λ q. shallow_state (state_of q)) (vec_items p.states) && states_within (map state_of (vec_items p.states))))
within_limits_of p =
    rw (← every_mapped shallow_state state_of (vec_items p.states))
    (sorted (every (ltb 0) (vec_items p.sizes)) (leb (length (vec_items p.sizes)) 64) (leb (sum (vec_items p.sizes)) 4096)
    (leb (length (map state_of (vec_items p.states))) 64) (leb (total parts_state (map state_of (vec_items p.states))) 16384) (every shallow_state (map state_of (vec_items p.states))))

-- the limits of headers, in the order of the code
pub headers_within_of : (ns : List ℕ) → headers_within ns ≡ (leb (length ns) 64 && (list_all (ltb 0) ns && leb (std.sum ns) 4096))
headers_within_of ns = rw (every_is (ltb 0) ns, total-sum ns) (turned (list_all (ltb 0) ns) (leb (length ns) 64) (leb (std.sum ns) 4096))
