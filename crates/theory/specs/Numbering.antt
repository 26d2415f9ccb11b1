-- What the numbers of configurations are good for. Assumes nothing: each statement is a type, whose proof is owed where a function's contract names it.
use Rattle.std.specs.Prelude.{◌≡◌, ◌<◌, ◌≤◌}
use Rattle.model.specs.Parser.{Parser}
use Rattle.model.specs.Refusal.{widest}
use Rattle.model.specs.Promise.{config_count}
use Rattle.model.specs.Config.{Config, needs}
use Rattle.theory.specs.Good.{Good}
use Rattle.theory.specs.Number.{config_number, number_config}

-- the target takes no more than the widest state: true of each state, and of an end where there is a state that takes a bit
abbrev pub WithinWidest : Parser → Config → Type 0
WithinWidest p a = needs p a.target ≤ widest p.sizes p.states

-- each is below the count of configurations
unfoldable pub NumberingBelow : Type 0
NumberingBelow = (p : Parser) (a : Config) → Good p a → WithinWidest p a → config_number p a < config_count p

-- each leads back to its configuration
unfoldable pub NumberingInverse : Type 0
NumberingInverse = (p : Parser) (a : Config) → Good p a → WithinWidest p a → number_config p (config_number p a) ≡ a

-- so that two configurations have two
unfoldable pub NumberingInjective : Type 0
NumberingInjective =
    (p : Parser) (a b : Config) → Good p a → WithinWidest p a → Good p b → WithinWidest p b → config_number p a ≡ config_number p b → a ≡ b
