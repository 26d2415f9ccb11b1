use Rattle.std.proofs.Common.{rules}
use Rattle.entails.proofs.follows.Goals as goal

pub returns-in-Err : goal.returns-in-Err
returns-in-Err c = record {
  right = c.from.ensures c.args.question.now c.args.room.now.value.now c.args.room.now.trail.now c.args.room.now.reason.now c.args.room.now.value.now c.args.question.now.used c.args.question.now.count c.survey.new.work.left c.in-Err.ensures.layout;
  same = search rules;
  back = search rules;
  front = search rules;
  places = search rules;
  ahead = search rules;
  inside = search rules;
  grows = search rules;
  room = search rules;
  less = search rules;
}
