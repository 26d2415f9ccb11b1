-- Each reader, from expressions to requests, goes by the bytes that it reads alone.
use Rattle.std.proofs.Common.{ℕ, zero, suc, ◌≤◌, List, [], ◌∷◌, length, sym, refl, subst, arith}
use Rattle.model.specs.Parser.{header, bits, slice, join, extract, assign, state, accept, reject, exactly, any, Case, State, Parser}
use Rattle.model.specs.Request.{compare, parse}
use Rattle.format.specs.Format.{read_expr, read_op, read_target, read_pattern, read_case, read_state, read_parser, read_store, read_parse, read_compare, read_request}
use Rattle.format.proofs.Exprs.{read_expr-step}
use Rattle.format.proofs.Parsers.{expr_back}
use Rattle.format.proofs.Local.{Begun, LocalAt, Local, local_got, local_same, local_bind, local_map, local_number, local_row, local_counted, none, more, local_tagged_suc, local_tagged}

-- a header, as the least of expressions
some_expr : Begun read_expr []
some_expr = (0 ∷ 0 ∷ 0 ∷ [], header 0, λ u. expr_back (header 0) u refl)

no_expr : (bs : List ℕ) → length bs ≤ 0 → LocalAt read_expr bs (read_expr bs)
no_expr [] l = subst (LocalAt read_expr []) (sym (read_expr-step [])) ([], refl, tt, some_expr)
no_expr (b ∷ bs) l = absurd (omega arith)

pub expr_local : (n : ℕ) → Local n read_expr
expr_local zero = record { on = no_expr; some = some_expr }
expr_local (suc n) =
    let e : Local n read_expr = expr_local n in
    local_same read_expr-step
    (local_tagged_suc (local_map header (local_number 2))
    (more (local_map bits (local_row 2))
    (more (local_bind (local_number 2) (λ lo. local_bind (local_number 2) (λ hi. local_map (λ x. slice x lo hi) e)))
    (more (local_bind e (λ d. local_map (join d) e)) none))))

pub op_local : {n : ℕ} → Local n read_op
op_local = local_tagged (local_map extract (local_number 2)) (more (local_bind (local_number 2) (λ h. local_map (assign h) (expr_local _))) none)

pub target_local : {n : ℕ} → Local n read_target
target_local = local_tagged (local_map state (local_number 2)) (more (local_got accept) (more (local_got reject) none))

pub pattern_local : {n : ℕ} → Local n read_pattern
pattern_local = local_tagged (local_map exactly (local_row 2)) (more (local_got any) none)

pub case_local : {n : ℕ} → Local n read_case
case_local = local_bind (local_counted pattern_local) (λ ps. local_map {Y = Case} (λ t. record { patterns = ps; target = t }) target_local)

pub state_local : {n : ℕ} → Local n read_state
state_local =
    local_bind (local_counted op_local) (λ os.
    local_bind (local_counted (expr_local _)) (λ es.
    local_bind (local_counted case_local) (λ cs.
    local_map {Y = State} (λ t. record { ops = os; keys = es; cases = cs; otherwise = t }) target_local)))

pub parser_local : {n : ℕ} → Local n read_parser
parser_local = local_bind (local_counted (local_number 2)) (λ ns. local_map {Y = Parser} (λ qs. record { sizes = ns; states = qs }) (local_counted state_local))

pub store_local : {n : ℕ} → Local n read_store
store_local = local_counted (local_row 2)

parse_local : {n : ℕ} → Local n read_parse
parse_local = local_bind parser_local (λ p. local_bind store_local (λ s. local_bind (local_number 2) (λ q. local_map (parse p s q) (local_row 4))))

compare_local : {n : ℕ} → Local n read_compare
compare_local =
    local_bind parser_local (λ p.
    local_bind parser_local (λ q.
    local_bind (local_number 2) (λ i.
    local_bind (local_number 2) (λ j.
    local_bind (local_number 8) (λ w.
    local_map (λ m. compare (record { first = p; second = q; first_state = i; second_state = j; work = w; room = m })) (local_number 8))))))

pub request_local : {n : ℕ} → Local n read_request
request_local = local_tagged parse_local (more compare_local none)
