-- Reading an expression by its tag.
use Rattle.std.proofs.Common.{◌≡◌, ℕ, get_or, refl}
use Rattle.model.specs.Parser.{Expr}
use Rattle.format.specs.Read.{failed}
use Rattle.format.specs.Format.{read_expr, expr_choices}
use Rattle.format.proofs.Exprs.{read_expr-step}
use Rattle.scan.specs.Reads.{Place, left, Took, Stopped, Is}
use Rattle.scan.specs.Skim.{read_tag, read_head, head_choices}
use Rattle.scan.specs.declared.fault.Fault.{Fault}
use Rattle.scan.proofs.Chain.{took_by, stopped_by, no_tag, tag_took, tag_stopped, exits}

pub no_expr : {old new : Place} {e : Fault} → Stopped (read_tag 4 (left old)) old new e → Stopped (read_expr (left old)) old new e
no_expr {old} u = stopped_by (read_expr-step (left old)) (no_tag (expr_choices read_expr) 4 (λ _. refl) u)

module _ {old mid : Place} {tag k : ℕ} (t : Took (read_tag 4 (left old)) (Is (λ n. n)) old tag mid) (is : tag ≡ k) where
  pub expr_took : {X : Type 0} {means : X → Expr → Type 0} {x : X} {new : Place} → Took (get_or (expr_choices read_expr (left mid)) k (failed (left old))) means mid x new → Took (read_expr (left old)) means old x new
  expr_took u = took_by (read_expr-step (left old)) (tag_took (expr_choices read_expr) 4 (λ _. refl) k t is u)

  pub expr_stopped : {e : Fault} {new : Place} → Stopped (get_or (expr_choices read_expr (left mid)) k (failed (left old))) mid new e → Stopped (read_expr (left old)) old new e
  expr_stopped u = stopped_by (read_expr-step (left old)) (tag_stopped (expr_choices read_expr) 4 (λ _. refl) k t is u)

-- what fails in a part of an expression fails in the whole
pub ruleset expr_exits = (exits, no_expr, expr_stopped)

-- the same for an expression's head
pub no_head : {old new : Place} {e : Fault} → Stopped (read_tag 4 (left old)) old new e → Stopped (read_head (left old)) old new e
no_head u = no_tag head_choices 4 (λ _. refl) u

pub head_stopped : {old mid new : Place} {tag k : ℕ} {e : Fault} → Took (read_tag 4 (left old)) (Is (λ n. n)) old tag mid → tag ≡ k
    → Stopped (get_or (head_choices (left mid)) k (failed (left old))) mid new e → Stopped (read_head (left old)) old new e
head_stopped {k = k} t is u = tag_stopped head_choices 4 (λ _. refl) k t is u
