use Rattle.std.proofs.Common.{sym, ◌∙◌}
use Rattle.checks.proofs.Parts.{sized_of}
use Rattle.checks.proofs.widths.sized.Goals as goal

pub returns : goal.returns
returns c = c.states.ensures ∙ rw (c.new.ensures, c.deref.ensures.value, c.deref-2.ensures.value) (sym (sized_of c.args.parser.now))
