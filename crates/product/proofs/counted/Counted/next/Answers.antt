use Rattle.std.proofs.Common.{◌≡◌, ◌<◌, true, sym, ap, ◌∙◌, subst}
use Rattle.model.specs.Config.{step}
use Rattle.model.specs.Parser.{Parser}
use Rattle.model.specs.Promise.{config_count}
use Rattle.theory.specs.Number.{config_number}
use Rattle.machine.specs.View.{parser_in}
use Rattle.product.specs.declared.side.Side.{Side}
use Rattle.product.specs.Pair.{good_number}
use Rattle.product.specs.View.{config_in}
use Rattle.product.proofs.Numbers.{below, is_good}
use Rattle.product.proofs.counted.Counted.next.Goals as goal

pub returns : goal.returns
returns c =
    let s : Side = c.args.self.now.side in
    let p : Parser = parser_in s.machine in
    let a = config_in p c.step.result in
    let good = c.step.ensures.stands.good in
    record {
      value = c.encode.ensures ∙ ap (config_number p) (c.step.ensures.same ∙ ap (λ d. step p d c.args.bit) c.decode.ensures.same);
      good = subst (λ k. good_number p k ≡ true) (sym c.encode.ensures) (is_good p s.machine.checked.right s.start s.begins a good);
      below = subst (λ k. k < config_count p) (sym c.encode.ensures) (below p s.machine.checked.right s.start s.begins a good);
    }
