-- That the offset of what is garbled is the right one, neither too early nor too late. Assumes nothing.
use Rattle.std.specs.Prelude.{◌≡◌, ℕ, ◌+◌, ◌<◌, ◌≤◌, List, [], ◌++◌, length, take}
use Rattle.model.specs.Request.{Request, garbled}
use Rattle.format.specs.Read.{got}
use Rattle.format.specs.Format.{read_request, asked_from}

-- bytes that cease to be a request at an offset: with the byte that stands there, no bytes after it make a request of them, and they cease at the same place;
-- an offset at the end says that bytes are missing
unfoldable pub Ceases : Type 0
Ceases =
    (bs : List ℕ) (n : ℕ) → length bs ≤ 1048576 → asked_from bs ≡ garbled n
    → (n ≤ length bs) × (n < length bs → (t : List ℕ) → length (take (n + 1) bs ++ t) ≤ 1048576 → asked_from (take (n + 1) bs ++ t) ≡ garbled n)

-- nor is the offset too late: the bytes before that offset are still the beginning of a request, though maybe of one that is too long
unfoldable pub Begins : Type 0
Begins =
    (bs : List ℕ) (n : ℕ) → length bs ≤ 1048576 → asked_from bs ≡ garbled n → (t : List ℕ) × (q : Request) × (read_request (take n bs ++ t) ≡ got q [])
