-- Nine statements about the definitions. Assumes nothing: each is a type, whose proof is owed where a function's contract names it.
use Rattle.std.specs.Prelude.{◌≡◌, ℕ, suc, ◌*◌, ◌<◌, ◌≤◌, true, ◌⊎◌, [], length}
use Rattle.model.specs.Parser.{Bits, Target, Parser, Store, accepts, accepts_from}
use Rattle.model.specs.Refusal.{are_bits, store_fits, fault}
use Rattle.model.specs.Request.{Comparison, compare, refusal, everything}
use Rattle.model.specs.Promise.{Equivalent, Distinguished, config_count}
use Rattle.model.specs.Config.{Config, needs, steps, is_accept, initial, Bisimulation}

-- every pair of headers' contents is related at the beginning
abbrev pub Initially : Comparison → (Config → Config → Type 0) → Type 0
Initially c r =
    (s t : Store) → store_fits c.first.sizes s ≡ true → store_fits c.second.sizes t ≡ true → r (initial c.first_state s) (initial c.second_state t)

-- 1. a bisimulation that holds at the beginning shows that two parsers are equivalent
unfoldable pub BisimilarIsEquivalent : Type 1
BisimilarIsEquivalent =
    (c : Comparison) (r : Config → Config → Type 0) → fault c.first ≡ 0 → fault c.second ≡ 0 → Bisimulation c.first c.second r → Initially c r → Equivalent c

-- 2. bit by bit comes to the same as state by state
unfoldable pub BitByBit : Type 0
BitByBit =
    (p : Parser) (q : ℕ) (s : Store) (bs : Bits) → fault p ≡ 0 → q < length p.states → store_fits p.sizes s ≡ true → are_bits bs ≡ true
    → accepts p s q bs ≡ is_accept (steps p (initial q s) bs).target

-- 3. stores keep their sizes
unfoldable pub StoresStay : Type 0
StoresStay =
    (p : Parser) (q : ℕ) (s : Store) (bs : Bits) → fault p ≡ 0 → q < length p.states → store_fits p.sizes s ≡ true → are_bits bs ≡ true
    → store_fits p.sizes (steps p (initial q s) bs).store ≡ true

-- 4. until a state has all its bits, nothing happens but that they are kept
unfoldable pub TakenAtOnce : Type 0
TakenAtOnce =
    (p : Parser) (a : Config) (bs : Bits) → a.buffer ≡ [] → length bs < needs p a.target → steps p a bs ≡ record { target = a.target; store = a.store; buffer = bs }

-- two parsers and a state of each, with no budget
abbrev pub comparison : Parser → Parser → ℕ → ℕ → Comparison
comparison p q i j = record { first = p; second = q; first_state = i; second_state = j; work = 0; room = 0 }

-- 5. equivalence is so both ways, and of three where the middle one can have a store at all
unfoldable pub BothWays : Type 0
BothWays =
    ((c : Comparison) → Equivalent c → Equivalent (record { first = c.second; second = c.first; first_state = c.second_state; second_state = c.first_state; work = c.work; room = c.room }))
    × ((p q r : Parser) (i j k : ℕ) (s : Store) → store_fits q.sizes s ≡ true → Equivalent (comparison p q i j) → Equivalent (comparison q r j k) → Equivalent (comparison p r i k))

-- 6. more time changes nothing of what is accepted
unfoldable pub TimeIsNothing : Type 0
TimeIsNothing =
    (n : ℕ) (p : Parser) (s : Store) (t : Target) (bs : Bits) → fault p ≡ 0 → length bs < n → accepts_from (suc n) p s t bs ≡ accepts_from n p s t bs

-- 7. what is distinguished is so by a message no longer than there are pairs of configurations
unfoldable pub ShortIsEnough : Type 0
ShortIsEnough =
    (c : Comparison) (s t : Store) (bs : Bits) → refusal everything (compare c) ≡ 0 → Distinguished c s t bs
    → (u v : Store) × ((cs : Bits) × (Distinguished c u v cs × (length cs ≤ config_count c.first * config_count c.second)))

-- 8. a parser is right, or refused by one of 2 to 6
unfoldable pub RightOrRefused : Type 0
RightOrRefused = (p : Parser) → (fault p ≡ 0) ⊎ ((1 < fault p) × (fault p < 7))

-- 9. of two that are equivalent there is a bisimulation that holds at the beginning
unfoldable pub EquivalentIsBisimilar : Type 1
EquivalentIsBisimilar =
    (c : Comparison) → fault c.first ≡ 0 → fault c.second ≡ 0 → Equivalent c
    → (r : Config → Config → Type 0) × (Bisimulation c.first c.second r × Initially c r)
