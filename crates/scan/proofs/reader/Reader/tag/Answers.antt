use Rattle.scan.proofs.Chain.{bad_tag}
use Rattle.scan.proofs.reader.Reader.tag.Goals as goal

pub returns-then-tag-kinds-clause-reads : goal.returns-then-tag-kinds-clause-reads
returns-then-tag-kinds-clause-reads c =
    rw c.offset-at.ensures.at (bad_tag c.args.kinds c.in_ok-tag.ensures.reads c.offset-at.ensures.within c.if-tag-kinds.true)
