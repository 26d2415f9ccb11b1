use Rattle.std.proofs.Common.{rules, ◌≡◌, subst, arith}
use Rattle.clauses.specs.Known.{Trailed}
use Rattle.clauses.proofs.known.Known.undo.Goals as goal

pub returns : goal.returns
returns c = record {
  rep = search rules;
  value = search rules;
  trail = search rules;
  bits = search rules;
  room = search rules;
  depth = λ le. omega (arith, le, c.min-self.ensures);
  undoes = λ before b low le t.
      let e : c.args.base ≡ c.min-self.result = omega (arith, le, c.min-self.ensures) in
      subst (λ x. Trailed before c.take_back.new.value c.args.self.now.trail.now b x) e (c.take_back.ensures before b low le t);
}
