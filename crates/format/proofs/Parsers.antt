-- Parsers, and all that they are made of, are read back; so is what is in headers.
use Rattle.std.proofs.lemmas.Bool.{and_parts}
use Rattle.model.specs.Parser.{header, bits, slice, join, extract, assign, state, accept, reject, exactly, any}
use Rattle.format.specs.Read.{read_number, read_row}
use Rattle.format.specs.Format.{read_expr, read_op, read_target, read_pattern, read_case, read_state, read_parser, read_store}
use Rattle.format.specs.Written.{number, row, expr, op, target, pattern, a_case, a_state, parser, store, fits, fit_row, fit_expr, fit_op, fit_target, fit_pattern, fit_case, fit_state, fit_parser, fit_store}
use Rattle.format.proofs.Exprs.{read_byte, read_expr-step}
use Rattle.format.proofs.Numbers.{ReadsBack, number_back}
use Rattle.format.proofs.Rows.{row_back, counted_back}

pub expr_back : ReadsBack read_expr expr fit_expr
expr_back (header h) rest ok = rw (read_expr-step, read_byte, number_back 2 h rest ok)
expr_back (bits bs) rest ok = rw (read_expr-step, read_byte, row_back 2 bs rest ok)
expr_back (slice e lo hi) rest ok =
    let h = and_parts _ _ ok in
    let k = and_parts _ _ h.1 in
    rw (read_expr-step, read_byte, number_back 2 lo _ h.0, number_back 2 hi _ k.0, expr_back e rest k.1)
expr_back (join d e) rest ok =
    let h = and_parts _ _ ok in
    rw (read_expr-step, read_byte, expr_back d _ h.0, expr_back e rest h.1)

pub op_back : ReadsBack read_op op fit_op
op_back (extract h) rest ok = rw (read_byte, number_back 2 h rest ok)
op_back (assign n e) rest ok =
    let h = and_parts _ _ ok in
    rw (read_byte, number_back 2 n _ h.0, expr_back e rest h.1)

pub target_back : ReadsBack read_target target fit_target
target_back (state q) rest ok = rw (read_byte, number_back 2 q rest ok)
target_back accept rest ok = rw read_byte
target_back reject rest ok = rw read_byte

pub pattern_back : ReadsBack read_pattern pattern fit_pattern
pattern_back (exactly bs) rest ok = rw (read_byte, row_back 2 bs rest ok)
pattern_back any rest ok = rw read_byte

pub case_back : ReadsBack read_case a_case fit_case
case_back c rest ok =
    let h = and_parts _ _ ok in
    rw (counted_back read_pattern pattern fit_pattern pattern_back c.patterns _ h.0, target_back c.target rest h.1)

pub state_back : ReadsBack read_state a_state fit_state
state_back q rest ok =
    let h = and_parts _ _ ok in
    let k = and_parts _ _ h.1 in
    let l = and_parts _ _ k.1 in
    rw (
      counted_back read_op op fit_op op_back q.ops _ h.0,
      counted_back read_expr expr fit_expr expr_back q.keys _ k.0,
      counted_back read_case a_case fit_case case_back q.cases _ l.0,
      target_back q.otherwise rest l.1,
    )

pub parser_back : ReadsBack read_parser parser fit_parser
parser_back p rest ok =
    let h = and_parts _ _ ok in
    rw (
      counted_back (read_number 2) (number 2) (fits 2) (number_back 2) p.sizes _ h.0,
      counted_back read_state a_state fit_state state_back p.states rest h.1,
    )

pub store_back : ReadsBack read_store store fit_store
store_back s rest ok = counted_back (read_row 2) (row 2) (fit_row 2) (row_back 2) s rest ok
