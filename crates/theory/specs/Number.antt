-- Configurations as numbers below `config_count`, and back. Assumes nothing.
use Rattle.std.specs.Prelude.{ℕ, zero, suc, ◌+◌, ◌*◌, ◌/◌, ◌%◌, ◌^◌, cond, List, [], ◌∷◌, ◌++◌, length, take, drop, ◌==◌, nat_le, nat_lt}
use Rattle.model.specs.Parser.{Bits, Target, state, accept, reject, Parser, Store}
use Rattle.model.specs.Refusal.{sum, widest}
use Rattle.model.specs.Config.{Config}

-- a row of bits as a number, the first bit lowest; and so many bits of a number
abbrev pub bits_number : Bits → ℕ
bits_number [] = 0
bits_number (b ∷ bs) = b + 2 * bits_number bs

abbrev pub number_bits : ℕ → ℕ → Bits
number_bits zero k = []
number_bits (suc n) k = k % 2 ∷ number_bits n (k / 2)

-- headers one after the other; and cut again by their sizes
abbrev pub joined : Store → Bits
joined [] = []
joined (bs ∷ s) = bs ++ joined s

abbrev pub parted : List ℕ → Bits → Store
parted [] bs = []
parted (n ∷ ns) bs = take n bs ∷ parted ns (drop n bs)

-- a buffer has a 1 put after its last bit, so that its length is in the number: n bits are below 2^(n+1)
abbrev pub buffer_number : Bits → ℕ
buffer_number bs = bits_number (bs ++ 1 ∷ [])

-- the bits below the highest 1 of a number, which has at most so many bits
abbrev pub number_buffer : ℕ → ℕ → Bits
number_buffer zero k = []
number_buffer (suc n) k = cond (nat_le k 1) [] (k % 2 ∷ number_buffer n (k / 2))

-- states by their numbers, then accept and reject
abbrev pub target_number : ℕ → Target → ℕ
target_number n (state q) = q
target_number n accept = n
target_number n reject = suc n

abbrev pub number_target : ℕ → ℕ → Target
number_target n k = cond (nat_lt k n) (state k) (cond (k == n) accept reject)

-- target, header bits and buffer, the target highest
abbrev pub config_number : Parser → Config → ℕ
config_number p a =
    (target_number (length p.states) a.target * 2 ^ sum p.sizes + bits_number (joined a.store)) * 2 ^ widest p.sizes p.states + buffer_number a.buffer

abbrev pub number_config : Parser → ℕ → Config
number_config p k =
    let w : ℕ = widest p.sizes p.states in
    let h : ℕ = sum p.sizes in
    record {
      target = number_target (length p.states) (k / 2 ^ w / 2 ^ h);
      store = parted p.sizes (number_bits h (k / 2 ^ w % 2 ^ h));
      buffer = number_buffer w (k % 2 ^ w);
    }
