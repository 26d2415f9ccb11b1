use Rattle.std.proofs.Common.{◌-◌, ◌≤◌, min, length, ap, ◌∙◌, subst, arith}
use Rattle.reply.specs.View.{answer_of}
use Rattle.compare.specs.Budget.{compared, Told}
use Rattle.compare.proofs.Telling.{told_right, told_answered}
use Rattle.compare.proofs.compare.Goals as goal

pub returns : goal.returns
returns c =
    let given = min c.args.most_room (length c.args.room.now) in
    let a = answer_of c.sweep_pairs.new.room c.sweep_pairs.result in
    let left = c.saturating_sub-left.result in
    let left_is = c.saturating_sub-left.ensures ∙ ap (λ m. m - c.room_for.result) c.min-given.ensures in
    let most : c.saturating_sub-left.result ≤ min c.args.most_room (length c.args.room.now) = omega (arith, left_is) in
    let told =
    subst (λ t. Told (compared c.args.first t 0 0) c.args.work left a) c.in-Ok.ensures.1
    (subst (λ s. Told (compared s c.in-Ok.product.second.side 0 0) c.args.work left a) c.in-Ok.ensures.0 c.sweep_pairs.ensures) in
    record {
      right = told_right c.args.first c.args.second c.args.work given left a told most;
      answers = told_answered c.args.first c.args.second c.args.work given left a told;
    }
