use Rattle.std.proofs.Common.{map, rules}
use Rattle.std.proofs.lemmas.Iterator.{YieldsList-from_slice}
use Rattle.std.proofs.lemmas.Iterator.Search.{all_from_yields_List}
use Rattle.model.specs.Refusal.{sized_patterns}
use Rattle.syntax.specs.View.{expr_of, pattern_of}
use Rattle.checks.proofs.widths.Widths.cases.Goals as goal

pub returns : goal.returns
returns c k =
    all_from_yields_List (λ case. sized_patterns c.args.self.now.sizes.now (map expr_of c.args.keys.now) (map pattern_of case.patterns.items)) _ _ _ c.all.ensures.ran (YieldsList-from_slice c.args.cases.now cc) (λ x b q p. search (rules, k))
