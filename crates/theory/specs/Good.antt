-- The configurations that a parser can come to, and a parser as a machine. Assumes nothing.
use Rattle.std.specs.Prelude.{◌≡◌, ◌<◌, true, length}
use Rattle.model.specs.Parser.{Parser}
use Rattle.model.specs.Refusal.{are_bits, store_fits, named_target}
use Rattle.model.specs.Config.{Config, needs, step, is_accept}
use Rattle.theory.specs.Machine.{Machine}

abbrev pub machine : Parser → Machine
machine p = record { Config = Config; step = step p; accepting = λ a. is_accept a.target }

-- its target is there, its store fits, and fewer bits are in the buffer than the target takes
pub record Good (p : Parser) (a : Config) : Type 0 where
  pub there : named_target (length p.states) a.target ≡ true
  pub fits : store_fits p.sizes a.store ≡ true
  pub bits : are_bits a.buffer ≡ true
  pub waits : length a.buffer < needs p a.target
