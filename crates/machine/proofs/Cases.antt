-- The loop that looks for the first case that matches. Assumes nothing.
use Rattle.std.proofs.Common.{◌≡◌, ℕ, ◌+◌, ◌<◌, ◌≤◌, Bool, true, false, cond, List, map, length, get_or, drop, vec_items, sym, ap, ◌∙◌}
use Rattle.std.proofs.lemmas.List.{drop_all}
use Rattle.model.specs.Parser as M
use Rattle.syntax.specs.View.{pattern_of, case_of, target_of}
use Rattle.syntax.specs.declared.ast.Case.{Case}
use Rattle.model.proofs.Every.{drop_read}

-- none of the first i cases matches, so those that are ahead decide
module _ (s : M.Store) (keys : List M.Expr) (t : M.Target) (cases : List Case) where
  abbrev pub Ahead : ℕ → Type 0
  Ahead i = M.select s keys (map case_of (drop i cases)) t ≡ M.select s keys (map case_of cases) t

  module _ {i : ℕ} {c : Case} (ahead : Ahead i) (l : i < length cases) (read : c ≡ get_or cases i c) where
    leads : cond (M.matches s keys (map pattern_of (vec_items c.patterns))) (target_of c.target) (M.select s keys (map case_of (drop (i + 1) cases)) t)
        ≡ M.select s keys (map case_of cases) t
    leads = sym (ap (λ cs. M.select s keys (map case_of cs) t) (drop_read cases i c l read)) ∙ ahead

    by : {b : Bool} → M.matches s keys (map pattern_of (vec_items c.patterns)) ≡ b
        → cond b (target_of c.target) (M.select s keys (map case_of (drop (i + 1) cases)) t) ≡ M.select s keys (map case_of cases) t
    by e = sym (ap (λ b. cond b (target_of c.target) (M.select s keys (map case_of (drop (i + 1) cases)) t)) e) ∙ leads

    pub taken : M.matches s keys (map pattern_of (vec_items c.patterns)) ≡ true → target_of c.target ≡ M.select s keys (map case_of cases) t
    taken e = by e

    pub passed : M.matches s keys (map pattern_of (vec_items c.patterns)) ≡ false → Ahead (i + 1)
    passed e = by e

  pub none_left : {i : ℕ} → Ahead i → length cases ≤ i → t ≡ M.select s keys (map case_of cases) t
  none_left {i} ahead l = sym (ap (λ cs. M.select s keys (map case_of cs) t) (drop_all i cases l)) ∙ ahead
