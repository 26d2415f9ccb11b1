use Rattle.std.proofs.Common.{Ok, sym, refl, ap, subst, arith}
use Rattle.std.proofs.lemmas.Result.{err_from_is_err_and}
use Rattle.clauses.specs.Clauses.{Sat, All, clause_at, clauses_at}
use Rattle.clauses.proofs.Growing.{both, one_long, one_front, one_more}
use Rattle.clauses.proofs.Reading.{read_list, read_both}
use Rattle.clauses.proofs.Spending.{spent_from}
use Rattle.clauses.proofs.Trails.{kept_both, allows_same}
use Rattle.clauses.proofs.lemmas.add_lemma.Goals as goal

pub returns-then-not-branch : goal.returns-then-not-branch
returns-then-not-branch c =
    let e = c.in-Some.ensures in
    let f = c.in_ok-follows_by.ensures in
    let first = read_list _ _ _ e.same e.read.0 e.read.1.0 e.read.1.1 in
    record {
      kept = f.kept;
      after = λ v fits all. tt;
      front = refl;
      grows = omega arith;
      room = refl;
      long = refl;
      read = read_both _ _ _ first f.read;
      spent = spent_from _ _ _ _ _ _ _ _ f.spent first.ahead (λ o. cc);
    }

pub returns-in_err-push : goal.returns-in_err-push
returns-in_err-push c =
    let e = c.in-Some.ensures in
    let f = c.in_ok-follows_by.ensures in
    let first = read_list _ _ _ e.same e.read.0 e.read.1.0 e.read.1.1 in
    let p = err_from_is_err_and c.from_residual-in_err-push.result c.from_residual-in_err-push.ensures.1 in
    rw (p.1, p.2, c.in_err-push.ensures.full.0) (record {
      kept = f.kept;
      after = λ v fits all. tt;
      front = refl;
      grows = omega arith;
      room = refl;
      long = refl;
      read = read_both _ _ _ first f.read;
      spent = spent_from _ _ _ _ _ _ _ _ f.spent first.ahead (λ o. cc);
    })

pub returns : goal.returns
returns c =
    let e = c.in-Some.ensures in
    let f = c.in_ok-follows_by.ensures in
    let g = c.in_ok-push.ensures in
    let first = read_list _ _ _ e.same e.read.0 e.read.1.0 e.read.1.1 in
    record {
      kept = kept_both _ _ _ f.kept c.settle.ensures.kept;
      after = λ v fits all.
          let before = subst (λ n. All v (clauses_at n.now c.as_slice.result.now)) (sym e.same) (subst (λ x. All v (clauses_at c.args.lists.now.numbers.now x)) (sym c.as_slice.ensures) all) in
          let sat = subst (λ n. Sat v (clause_at n.now c.args.lists.now.at)) e.same (f.sound (ap Ok c.if-not-branch.false) v fits before) in
          let known = allows_same v c.args.known.now c.follows_by.new.known f.kept.rep f.same fits in
          both v c.settle.new.known _ _ (c.settle.ensures.after v known (subst (λ x. Sat v x) (sym e.read.1.0) sat)) (one_more c.args.starts.now c.push.new.self _ g.ok.0 g.ok.1 v _ all sat);
      front = one_front c.args.starts.now c.push.new.self _ g.ok.0 g.ok.1;
      grows = omega (arith, g.ok.1);
      room = g.same;
      long = one_long c.args.starts.now c.push.new.self _ g.ok.0 g.ok.1;
      read = read_both _ _ _ first f.read;
      spent = spent_from _ _ _ _ _ _ _ _ f.spent first.ahead (λ o. absurd (c.settle.ensures.free o));
    }
