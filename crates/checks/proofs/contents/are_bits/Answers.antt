use Rattle.std.proofs.Common.{nat_lt, rules, sym, ◌∙◌}
use Rattle.std.proofs.lemmas.Iterator.{YieldsList-from_slice}
use Rattle.std.proofs.lemmas.Iterator.Search.{all_from_yields_List}
use Rattle.checks.proofs.Tested.{every_is}
use Rattle.checks.proofs.contents.are_bits.Goals as goal

pub returns : goal.returns
returns c =
    all_from_yields_List (λ b. nat_lt b 2) _ _ _ c.all.ensures.ran (YieldsList-from_slice c.args.bits.now cc) (λ x b q k. search rules)
    ∙ sym (every_is (λ b. nat_lt b 2) c.args.bits.now)
