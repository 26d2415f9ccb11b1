use Rattle.std.proofs.Common.{◌≡◌, length, vec_items, sym, ◌∙◌}
use Rattle.syntax.specs.declared.ast.Parser.{Parser}
use Rattle.checks.proofs.Parts.{named_of}
use Rattle.checks.proofs.names.named.Goals as goal

pub returns : goal.returns
returns c =
    let p : Parser = c.args.parser.now in
    let states : c.len.result ≡ length (vec_items p.states) = c.len.ensures ∙ p.states.ok.0 in
    c.states.ensures ∙ rw (c.deref.ensures.value, states, c.deref-2.ensures.value) (sym (named_of p))
