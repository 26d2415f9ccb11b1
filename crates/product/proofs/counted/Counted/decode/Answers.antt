use Rattle.std.proofs.Common.{◌≡◌, ◌%◌, ◌^◌, ap, ◌∙◌}
use Rattle.model.specs.Parser.{Parser}
use Rattle.model.specs.Refusal.{widest}
use Rattle.machine.specs.View.{parser_in}
use Rattle.product.specs.declared.config.Config.{Config}
use Rattle.product.specs.declared.side.Side.{Side}
use Rattle.product.proofs.Exponents.{buffer_narrow}
use Rattle.product.proofs.Packing.{decoded, decoded_stands}
use Rattle.product.proofs.counted.Counted.decode.Goals as goal

pub low-requires : goal.low-requires
low-requires c = buffer_narrow c.args.self.now

pub returns : goal.returns
returns c =
    let s : Side = c.args.self.now.side in
    let p : Parser = parser_in s.machine in
    let r : Config = record { target = c.target.result; headers = c.headers.result; buffer = c.low.result } in
    let buffer : c.low.result ≡ c.args.k % 2 ^ widest p.sizes p.states = c.low.ensures ∙ ap (λ w. c.args.k % 2 ^ w) s.wide in
    record {
      same = decoded p c.args.k r c.target.ensures c.headers.ensures buffer;
      stands = decoded_stands p c.args.k r c.target.ensures c.headers.ensures buffer s.machine.checked.right s.start s.begins c.requires;
    }
