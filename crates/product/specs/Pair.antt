-- Two parsers as one system, whose configurations are numbers of pairs. Assumes nothing: each statement is a type, whose proof is owed where a contract names it.
use Rattle.std.specs.Prelude.{◌≡◌, ℕ, ◌+◌, ◌*◌, ◌/◌, ◌%◌, ◌^◌, ◌<◌, Bool, true, false, not, ◌&&◌, length, ◌==◌, nat_lt}
use Rattle.model.specs.Parser.{Bits, Parser}
use Rattle.model.specs.Refusal.{fault, sum, widest}
use Rattle.model.specs.Request.{Comparison}
use Rattle.model.specs.Promise.{Equivalent, Distinguished, config_count, pair_count}
use Rattle.model.specs.Config.{needs, step, is_accept, initial}
use Rattle.theory.specs.Number.{number_bits, parted, config_number, number_config}
use Rattle.reach.specs.Model.{Model, Safe, Leads}

-- One parser, whose configurations are numbers

-- it is the number of its configuration, which waits for a bit at least
abbrev pub good_number : Parser → ℕ → Bool
good_number p k = config_number p (number_config p k) == k && nat_lt (length (number_config p k).buffer) (needs p (number_config p k).target)

-- after a bit
abbrev pub next_number : Parser → ℕ → ℕ → ℕ
next_number p k b = config_number p (step p (number_config p k) b)

abbrev pub accepts_number : Parser → ℕ → Bool
accepts_number p k = is_accept (number_config p k).target

-- at the beginning of a state, with the bits of i in the headers
abbrev pub start_number : Parser → ℕ → ℕ → ℕ
start_number p q i = config_number p (initial q (parted p.sizes (number_bits (sum p.sizes) i)))

-- what is in the headers, as a number
abbrev pub header_number : Parser → ℕ → ℕ
header_number p k = k / 2 ^ widest p.sizes p.states % 2 ^ sum p.sizes

-- how many contents the headers can have
abbrev pub store_count : Parser → ℕ
store_count p = 2 ^ sum p.sizes

-- Two

-- exactly one
abbrev pub just_one : Bool → Bool → Bool
just_one true y = not y
just_one false y = y

-- the first's number times the count of the second's, and the second's
abbrev pub pair_model : Comparison → Model
pair_model c =
    let p : Parser = c.first in
    let q : Parser = c.second in
    let d : ℕ = config_count q in
    record {
      count = pair_count c;
      good = λ k. good_number p (k / d) && good_number q (k % d);
      next = λ k b. next_number p (k / d) b * d + next_number q (k % d) b;
      bad = λ k. just_one (accepts_number p (k / d)) (accepts_number q (k % d));
      starts = store_count p * store_count q;
      start = λ i. start_number p c.first_state (i / store_count q) * d + start_number q c.second_state (i % store_count q);
    }

-- what no bits lead to from any start makes no difference
abbrev pub SafeIsEquivalent : Type 0
SafeIsEquivalent =
    (c : Comparison) → fault c.first ≡ 0 → fault c.second ≡ 0 → c.first_state < length c.first.states → c.second_state < length c.second.states
    → Safe (pair_model c) → Equivalent c

-- bits that lead from a start to a bad pair distinguish the two, with what was in the headers there
abbrev pub LeadingDistinguishes : Type 0
LeadingDistinguishes =
    (c : Comparison) → fault c.first ≡ 0 → fault c.second ≡ 0 → c.first_state < length c.first.states → c.second_state < length c.second.states
    → (k : ℕ) (bs : Bits) → Leads (pair_model c) k bs
    → Distinguished c (number_config c.first (k / config_count c.second)).store (number_config c.second (k % config_count c.second)).store bs
