use Rattle.machine.specs.View.{parser_in}
use Rattle.product.specs.declared.side.Side.{Side}
use Rattle.product.proofs.Exponents.{count_small, headers-narrow, buffer_narrow}
use Rattle.product.proofs.Packing.{encoded}
use Rattle.product.proofs.counted.Counted.encode.Goals as goal

pub overflow_shl-high : goal.overflow_shl-high
overflow_shl-high c = headers-narrow c.args.self.now

pub overflow_shl-result : goal.overflow_shl-result
overflow_shl-result c = buffer_narrow c.args.self.now

pub returns : goal.returns
returns c =
    let s : Side = c.args.self.now.side in
    encoded (parser_in s.machine) c.args.c c.requires s.machine.checked.right s.start s.begins (count_small c.args.self.now) c.target_number.ensures s.headers s.wide
