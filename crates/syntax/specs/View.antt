-- What the types of the code mean in the model. Assumes nothing.
use Rattle.std.specs.Prelude.{ℕ, map, vec_items, Vec}
use Rattle.std.specs.declared.alloc.Global.{Global}
use Rattle.model.specs.Parser as M
use Rattle.syntax.specs.declared.ast.Expr.{Expr}
use Rattle.syntax.specs.declared.ast.Expr.TheVariants.{Header, Bits, Slice', Join'}
use Rattle.syntax.specs.declared.ast.Op.{Op}
use Rattle.syntax.specs.declared.ast.Op.TheVariants.{Extract, Assign}
use Rattle.syntax.specs.declared.ast.Target.{Target}
use Rattle.syntax.specs.declared.ast.Target.TheVariants.{State as To, Accept, Reject}
use Rattle.syntax.specs.declared.ast.Pattern.{Pattern}
use Rattle.syntax.specs.declared.ast.Pattern.TheVariants.{Exactly, Any}
use Rattle.syntax.specs.declared.ast.Case.{Case}
use Rattle.syntax.specs.declared.ast.State.{State}
use Rattle.syntax.specs.declared.ast.Parser.{Parser}

abbrev pub expr_of : Expr → M.Expr
expr_of (Header h) = M.header h
expr_of (Bits bs) = M.bits (vec_items bs)
expr_of (Slice' p e lo hi) = M.slice (expr_of e) lo hi
expr_of (Join' p d q e) = M.join (expr_of d) (expr_of e)

abbrev pub op_of : Op → M.Op
op_of (Extract h) = M.extract h
op_of (Assign h e) = M.assign h (expr_of e)

abbrev pub target_of : Target → M.Target
target_of (To q) = M.state q
target_of Accept = M.accept
target_of Reject = M.reject

abbrev pub pattern_of : Pattern → M.Pattern
pattern_of (Exactly bs) = M.exactly (vec_items bs)
pattern_of Any = M.any

abbrev pub case_of : Case → M.Case
case_of c = record { patterns = map pattern_of (vec_items c.patterns); target = target_of c.target }

abbrev pub state_of : State → M.State
state_of q =
    record {
      ops = map op_of (vec_items q.ops);
      keys = map expr_of (vec_items q.keys);
      cases = map case_of (vec_items q.cases);
      otherwise = target_of q.otherwise;
    }

abbrev pub parser_of : Parser → M.Parser
parser_of p = record { sizes = vec_items p.sizes; states = map state_of (vec_items p.states) }

-- headers' contents, one bit to a byte
abbrev pub store_of : Vec (Vec ℕ Global) Global → M.Store
store_of v = map vec_items (vec_items v)
