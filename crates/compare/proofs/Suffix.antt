-- What stands in the room from a place on depends on nothing before that place.
use Rattle.std.proofs.Common.{◌≡◌, ℕ, zero, suc, ◌+◌, ◌/◌, ◌%◌, ◌^◌, ◌≤◌, List, ◌∷◌, get_or, drop, sym, refl, ap, ◌∙◌, ap₂, arith}
use Rattle.std.proofs.lemmas.List.{get_or-drop}
use Rattle.rows.specs.Row.{bits_in, row_in, row_end, rows_in, rows_end, store_in, store_end}

-- two rooms have the same numbers from a place on
abbrev pub From : List ℕ → List ℕ → ℕ → Type 0
From room room' at = (k : ℕ) → at ≤ k → get_or room' k 0 ≡ get_or room k 0

bits_same : (ws ws' : List ℕ) → ((i : ℕ) → get_or ws' i 0 ≡ get_or ws i 0) → (k n : ℕ) → bits_in ws' k n ≡ bits_in ws k n
bits_same ws ws' same k zero = refl
bits_same ws ws' same k (suc n) = ap₂ (λ w bs. w / 2 ^ (k % 64) % 2 ∷ bs) (same (k / 64)) (bits_same ws ws' same (suc k) n)

module _ (room room' : List ℕ) where
  pub from_later : (at later : ℕ) → From room room' at → at ≤ later → From room room' later
  from_later at later same l k h = same k (omega arith)

  dropped : (at : ℕ) → From room room' at → (i : ℕ) → get_or (drop (suc at) room') i 0 ≡ get_or (drop (suc at) room) i 0
  dropped at same i = get_or-drop (suc at) room' i 0 ∙ same (suc at + i) (omega arith) ∙ sym (get_or-drop (suc at) room i 0)

  pub row_same : (at : ℕ) → From room room' at → row_in room' at ≡ row_in room at
  row_same at same =
      ap (bits_in (drop (suc at) room') 0) (same at (omega arith)) ∙ bits_same (drop (suc at) room) (drop (suc at) room') (dropped at same) 0 (get_or room at 0)

  pub row_end_same : (at : ℕ) → From room room' at → row_end room' at ≡ row_end room at
  row_end_same at same = ap (λ n. suc at + (n + 63) / 64) (same at (omega arith))

  row_end_past : (at : ℕ) → at ≤ row_end room at
  row_end_past at = omega arith

  rows_same : (n at : ℕ) → From room room' at → rows_in room' n at ≡ rows_in room n at
  rows_same zero at same = refl
  rows_same (suc n) at same =
      ap₂ (λ b k. b ∷ rows_in room' n k) (row_same at same) (row_end_same at same)
      ∙ ap (λ s. row_in room at ∷ s) (rows_same n (row_end room at) (from_later at (row_end room at) same (row_end_past at)))

  rows_end_same : (n at : ℕ) → From room room' at → rows_end room' n at ≡ rows_end room n at
  rows_end_same zero at same = refl
  rows_end_same (suc n) at same =
      ap (rows_end room' n) (row_end_same at same) ∙ rows_end_same n (row_end room at) (from_later at (row_end room at) same (row_end_past at))

  pub store_same : (at : ℕ) → From room room' at → store_in room' at ≡ store_in room at
  store_same at same =
      ap (λ n. rows_in room' n (suc at)) (same at (omega arith)) ∙ rows_same (get_or room at 0) (suc at) (from_later at (suc at) same (omega arith))

  pub store_end_same : (at : ℕ) → From room room' at → store_end room' at ≡ store_end room at
  store_end_same at same =
      ap (λ n. rows_end room' n (suc at)) (same at (omega arith)) ∙ rows_end_same (get_or room at 0) (suc at) (from_later at (suc at) same (omega arith))
