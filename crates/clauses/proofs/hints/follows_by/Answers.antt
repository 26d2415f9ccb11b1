use Rattle.clauses.proofs.Reading.{read_list}
use Rattle.clauses.proofs.hints.follows_by.Goals as goal

pub returns-clause-read : goal.returns-clause-read
returns-clause-read c =
    let e = c.in-Some-next.ensures in
    read_list _ _ _ e.same e.read.0 e.read.1.0 e.read.1.1
