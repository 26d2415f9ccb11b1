use Rattle.clauses.proofs.Trails.{undone_same, undone_kept, undone_depth}
use Rattle.clauses.proofs.hints.follows.Goals as goal

pub returns-clause-same : goal.returns-clause-same
returns-clause-same c = undone_same _ _ _ c.refute-end.ensures.kept c.undo.ensures

pub returns-clause-kept : goal.returns-clause-kept
returns-clause-kept c = undone_kept _ _ _ c.refute-end.ensures.kept c.undo.ensures

pub returns-clause-depth : goal.returns-clause-depth
returns-clause-depth c = undone_depth _ _ _ c.refute-end.ensures.kept c.undo.ensures
