use Rattle.std.proofs.Common.{◌≡◌, ◌^◌, ◌<◌, drop}
use Rattle.format.specs.Read.{big_endian}
use Rattle.scan.proofs.reader.Reader.number.Given as goal

abbrev pub invariant-loop-digit : goal.invariant-loop-digit
invariant-loop-digit l = (big_endian l.n (drop l.digit-index l.digit-items) ≡ big_endian 0 l.digit-items) × (l.n < 256 ^ l.digit-index)
