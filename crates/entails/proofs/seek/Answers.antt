use Rattle.std.proofs.Common.{sym, ◌∙◌}
use Rattle.std.proofs.lemmas.Result.{err_from_is_err_and}
use Rattle.entails.specs.Answers.{says}
use Rattle.entails.proofs.Sought.{follows_asked, learned_checked, refuted_asked}
use Rattle.entails.proofs.seek.Goals as goal
use Rattle.entails.proofs.seek.Goals.{in-Shown, in-Model}

pub returns-in_err-enough-clause-right : goal.returns-in_err-enough-clause-right
returns-in_err-enough-clause-right c =
    let s = c.args.search.now in
    let e = err_from_is_err_and c.from_residual.result c.from_residual.ensures.1 in
    rw (e.1, e.2) (c.in_err-enough.ensures.lack s.count c.args.work.now.left)

pub returns-clause-right : goal.returns-clause-right
returns-clause-right c =
    elim c.match-found.branch [
      | in-Shown w ↦ rw w.in-Shown.is (follows_asked c.args.search.now c.hunt.new.search c.requires.begins.1 c.hunt.ensures.learned c.requires.laid
          (w.confirm-believed.ensures.sound (sym w.believed-is ∙ c.if-not-believed.false)))
      | in-Model w ↦ rw (w.in-Model.is, w.room-is) (refuted_asked c.args.search.now c.hunt.new.search c.requires.begins.1 c.hunt.ensures.learned c.requires.laid
          (says c.hunt.new.value) (w.refutes-believed.ensures (sym w.believed-is ∙ c.if-not-believed.false)))
    ]
