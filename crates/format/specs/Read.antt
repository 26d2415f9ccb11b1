-- How bytes are read: a value and the bytes after it, or the bytes from where they cease to be one. Assumes nothing.
use Rattle.std.specs.Prelude.{ℕ, zero, suc, ◌+◌, ◌*◌, cond, List, [], ◌∷◌, length, take, drop, nat_le, slice_index_or}

-- where bytes end too soon, none are left
pub data Read (X : Type 0) : Type 0 where
  got : X → List ℕ → Read X
  failed : List ℕ → Read X

-- one thing, and then another
abbrev pub bind : {X Y : Type 0} → Read X → (X → List ℕ → Read Y) → Read Y
bind (got x rest) f = f x rest
bind (failed rest) f = failed rest

-- so many bytes
abbrev pub read_bytes : ℕ → List ℕ → Read (List ℕ)
read_bytes n bs = cond (nat_le n (length bs)) (got (take n bs) (drop n bs)) (failed [])

-- a number from its bytes, the highest first, after what was read of it
abbrev pub big_endian : ℕ → List ℕ → ℕ
big_endian n [] = n
big_endian n (b ∷ bs) = big_endian (n * 256 + b) bs

-- a number of so many bytes
abbrev pub read_number : ℕ → List ℕ → Read ℕ
read_number n bs = bind (read_bytes n bs) (λ ds rest. got (big_endian 0 ds) rest)

-- a tag and what belongs to it: the tag's number picks one of a list, and a tag that isn't there fails where it stands
abbrev pub read_tagged : {X : Type 0} → (List ℕ → List (Read X)) → List ℕ → Read X
read_tagged choices bs = bind (read_number 1 bs) (λ tag rest. slice_index_or (choices rest) tag (failed bs))

-- so many things, one after the other
abbrev pub read_many : {X : Type 0} → (List ℕ → Read X) → ℕ → List ℕ → Read (List X)
read_many f zero bs = got [] bs
read_many f (suc n) bs = bind (f bs) (λ x r. bind (read_many f n r) (λ xs r'. got (x ∷ xs) r'))

-- how many things, as a number of two bytes, and then these
abbrev pub read_counted : {X : Type 0} → (List ℕ → Read X) → List ℕ → Read (List X)
read_counted f bs = bind (read_number 2 bs) (λ n r. read_many f n r)

-- a row of bits, one to a byte, after how many there are as a number of so many bytes
abbrev pub read_row : ℕ → List ℕ → Read (List ℕ)
read_row k bs = bind (read_number k bs) (λ n r. read_bytes n r)
