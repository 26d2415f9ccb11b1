use Rattle.clauses.proofs.Trails.{kept_both}
use Rattle.clauses.proofs.hints.refute.Goals as goal

pub returns-clause-kept : goal.returns-clause-kept
returns-clause-kept c = kept_both _ _ _ c.deny.ensures.kept c.run_hints.ensures.kept
