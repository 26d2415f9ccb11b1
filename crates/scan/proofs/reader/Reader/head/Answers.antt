use Rattle.std.proofs.Common.{rules}
use Rattle.scan.proofs.Chain.{exits}
use Rattle.scan.proofs.Trees.{no_head, head_stopped}
use Rattle.scan.proofs.reader.Reader.head.Goals as goal

pub returns-in_err-tag-clause-reads : goal.returns-in_err-tag-clause-reads
returns-in_err-tag-clause-reads c = search (rules, exits, no_head)

pub returns-in_err-u16-in-0-clause-reads : goal.returns-in_err-u16-in-0-clause-reads
returns-in_err-u16-in-0-clause-reads c = search (rules, exits, head_stopped)

pub returns-in_err-row-in-1-clause-reads : goal.returns-in_err-row-in-1-clause-reads
returns-in_err-row-in-1-clause-reads c = search (rules, exits, head_stopped)

pub returns-in_err-u16-in-2-clause-reads : goal.returns-in_err-u16-in-2-clause-reads
returns-in_err-u16-in-2-clause-reads c = search (rules, exits, head_stopped)

pub returns-in_err-u16-in-2-2-clause-reads : goal.returns-in_err-u16-in-2-2-clause-reads
returns-in_err-u16-in-2-2-clause-reads c = search (rules, exits, head_stopped)
