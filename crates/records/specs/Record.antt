-- A file of requests. Assumes nothing.
use Rattle.std.specs.Prelude.{◌≡◌, ℕ, ◌+◌, ◌-◌, ◌<◌, cond, ◌&&◌, List, length, take, drop, ◌==◌, nat_lt, slice_index}
use Rattle.format.specs.Read.{big_endian}
use Rattle.records.specs.Rest.{Rest}
use Rattle.records.specs.declared.records.Record.{Record}

-- a record is a length of four bytes, and then so many bytes, which are a request; where the bytes end inside one, those that are there are it
abbrev pub record_length : List ℕ → ℕ
record_length bs = big_endian 0 (take 4 bs)

abbrev pub first_request : List ℕ → List ℕ
first_request bs = take (record_length bs) (drop 4 bs)

abbrev pub after_record : List ℕ → List ℕ
after_record bs = drop (record_length bs) (drop 4 bs)

-- the first record of what is left, and what is left then: fewer bytes, which end where they ended
pub record Found (old : Rest) (x : Record) (new : Rest) : Type 0 where
  pub begins : x.at ≡ old.at
  pub request : x.request.now ≡ first_request old.bytes
  pub rest : new.bytes ≡ after_record old.bytes
  pub further : length new.bytes < length old.bytes
  pub end : new.at + length new.bytes ≡ old.at + length old.bytes

-- how much room a request to compare asks for: its last eight bytes; of any other request none
abbrev pub room_wanted : List ℕ → ℕ
room_wanted bs = cond (slice_index bs 0 == 1 && nat_lt 8 (length bs)) (big_endian 0 (take 8 (drop (length bs - 8) bs))) 0
