use Rattle.std.proofs.Common.{Ok, Err, sym, ap, subst, ◌∙◌}
use Rattle.std.proofs.Math.Nat.{min-eq_left}
use Rattle.clauses.specs.Clauses.{All, clauses_at}
use Rattle.clauses.specs.Steps.{Both, stacked}
use Rattle.entails.proofs.confirm.shown.Goals as goal

pub returns-in-Ok-true-clause-sound : goal.returns-in-Ok-true-clause-sound
returns-in-Ok-true-clause-sound c = λ _ v fits all.
    let both = c.in-Ok.ensures.after v fits (rw (c.new-starts.ensures.room, c.new-starts.ensures.len ∙ min-eq_left c.requires) all) in
    c.in-Ok-true.ensures.sound (ap Ok c.in-Ok-true.field-0-test) v both.0 (subst (λ starts. All v (clauses_at c.args.numbers.now.now starts)) (sym c.as_slice.ensures) both.1)

pub returns-in-Err-Conflict-clause-sound : goal.returns-in-Err-Conflict-clause-sound
returns-in-Err-Conflict-clause-sound c = λ _ v fits all.
    absurd (subst (λ e. Both c.add_lemmas.new.known v (stacked c.args.numbers.now.now c.add_lemmas.new.starts) (Err e)) c.in-Err-Conflict.field-0-is
    (c.in-Err-Conflict.ensures.after v fits (rw (c.new-starts.ensures.room, c.new-starts.ensures.len ∙ min-eq_left c.requires) all)))
