use Rattle.std.proofs.Common.{◌≡◌, ℕ, ◌<◌, true, sym, refl, ap, ◌∙◌, subst}
use Rattle.model.specs.Parser.{Parser}
use Rattle.model.specs.Promise.{config_count}
use Rattle.theory.specs.Number.{config_number}
use Rattle.machine.specs.View.{parser_in}
use Rattle.syntax.specs.declared.ast.Target.{Target}
use Rattle.product.specs.declared.config.Config.{Config}
use Rattle.product.specs.declared.side.Side.{Side}
use Rattle.product.specs.Pair.{good_number, store_count}
use Rattle.product.specs.View.{config_in, Stands}
use Rattle.product.proofs.Numbers.{below, is_good}
use Rattle.product.proofs.Packing.{begun, begun_stands}
use Rattle.product.proofs.counted.Counted.begin.Goals as goal

-- where a side begins
abbrev first : Side → ℕ → Config
first s i = record { target = Target.State s.start; headers = i; buffer = 1 }

stands : (s : Side) (i : ℕ) → i < store_count (parser_in s.machine) → Stands (parser_in s.machine) (first s i)
stands s i l = begun_stands (parser_in s.machine) s.machine.checked.right s.start s.begins i (first s i) refl refl refl l

pub encode-requires : goal.encode-requires
encode-requires c = stands c.args.self.now.side c.args.i c.requires

pub returns : goal.returns
returns c =
    let s : Side = c.args.self.now.side in
    let p : Parser = parser_in s.machine in
    let a = config_in p (first s c.args.i) in
    let good = (stands s c.args.i c.requires).good in
    record {
      value = c.encode.ensures ∙ ap (config_number p) (begun p s.machine.checked.right s.start s.begins c.args.i (first s c.args.i) refl refl refl);
      good = subst (λ k. good_number p k ≡ true) (sym c.encode.ensures) (is_good p s.machine.checked.right s.start s.begins a good);
      below = subst (λ k. k < config_count p) (sym c.encode.ensures) (below p s.machine.checked.right s.start s.begins a good);
    }
