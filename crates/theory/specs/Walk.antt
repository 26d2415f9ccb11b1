-- What several bits do from a configuration, and acceptance split at any point. Assumes nothing: each statement is a type, whose proof is owed where a contract names it.
use Rattle.std.specs.Prelude.{◌≡◌, ℕ, ◌+◌, ◌<◌, ◌≤◌, true, ◌++◌, length, take, drop}
use Rattle.model.specs.Parser.{Bits, Parser, Store, accepts}
use Rattle.model.specs.Refusal.{are_bits, fault, store_fits}
use Rattle.model.specs.Config.{Config, needs, transition, steps, is_accept, initial}
use Rattle.theory.specs.Leap.{Ready}

-- fewer bits than it still needs are kept; exactly as many lead on; more lead on, and go on from there
pub record Walks : Type 0 where
  pub fewer : (p : Parser) (a : Config) (w : Bits) → length a.buffer + length w < needs p a.target → steps p a w ≡ record { target = a.target; store = a.store; buffer = a.buffer ++ w }
  pub exactly : (p : Parser) (a : Config) (w : Bits) → Ready p a → length a.buffer + length w ≡ needs p a.target → steps p a w ≡ transition p a (a.buffer ++ w) a.target
  pub more : (p : Parser) (a : Config) (k : ℕ) (w : Bits) → Ready p a → length a.buffer + k ≡ needs p a.target → k ≤ length w
      → steps p a w ≡ steps p (transition p a (a.buffer ++ take k w) a.target) (drop k w)

-- what is accepted is decided by any first part of the input and then by the rest
unfoldable pub AcceptanceSplits : Type 0
AcceptanceSplits =
    (p : Parser) (q : ℕ) (s : Store) (v w : Bits) → fault p ≡ 0 → q < length p.states → store_fits p.sizes s ≡ true → are_bits (v ++ w) ≡ true
    → accepts p s q (v ++ w) ≡ is_accept (steps p (steps p (initial q s) v) w).target
