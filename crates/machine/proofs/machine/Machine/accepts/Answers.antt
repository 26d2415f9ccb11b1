use Rattle.std.proofs.Common.{ltb, ap, ◌∙◌, arith}
use Rattle.model.specs.Refusal.{every}
use Rattle.model.proofs.Every.{every_drop, every_take}
use Rattle.syntax.specs.View.{target_of}
use Rattle.machine.specs.View.{contents, parser_in}
use Rattle.machine.proofs.Accepting.{at_first, known, stops, takes_some, goes_on, at_accept, at_reject}
use Rattle.machine.proofs.machine.Machine.accepts.Goals as goal

pub returns-in_default : goal.returns-in_default
returns-in_default c = stops (parser_in c.args.self.now) c.in-State.q c.loop-target.invariant.running (ap target_of c.in-State.is) c.width.ensures c.in_default.ensures.cases

pub walk-target-requires : goal.walk-target-requires
walk-target-requires c =
    let split = c.in-Some.ensures.cases in
    record {
      known = known (parser_in c.args.self.now) c.in-State.q c.loop-target.invariant.running (ap target_of c.in-State.is);
      bits = ap (every (λ b. ltb b 2)) split.1 ∙ every_take (λ b. ltb b 2) c.loop-target.rest.now c.loop-target.invariant.bits c.width.result;
      wide = split.3 ∙ c.width.ensures;
    }

pub loop-target-preserved : goal.loop-target-preserved
loop-target-preserved c =
    let m = c.args.self.now in
    let split = c.in-Some.ensures.cases in
    record {
      running = goes_on (parser_in m) c.in-State.q c.loop-target.invariant.running (ap target_of c.in-State.is) c.width.ensures m.checked.right split.0 split.1 split.2 c.walk-target.ensures.done
          c.walk-target.ensures.leads;
      bits = ap (every (λ b. ltb b 2)) split.2 ∙ every_drop (λ b. ltb b 2) c.loop-target.rest.now c.loop-target.invariant.bits c.width.result;
    }

pub returns-in-Accept : goal.returns-in-Accept
returns-in-Accept c = c.is_empty.ensures ∙ at_accept (parser_in c.args.self.now) c.loop-target.invariant.running (ap target_of c.in-Accept.is)

pub returns-in-Reject : goal.returns-in-Reject
returns-in-Reject c = at_reject (parser_in c.args.self.now) c.loop-target.invariant.running (ap target_of c.in-Reject.is)
