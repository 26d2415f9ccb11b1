-- Parts of the room: one after another, and past its end.
use Rattle.std.proofs.Common.{◌≡◌, ℕ, zero, suc, ◌+◌, ◌/◌, List, ◌∷◌, get_or, drop, refl, ap, ◌∙◌, arith}
use Rattle.std.proofs.lemmas.List.{drop-drop, get_or-drop}
use Rattle.format.specs.Written.{row, store}
use Rattle.reply.specs.Appends.{difference}
use Rattle.reply.specs.Front.{front_row, past_row, front_rows, past_rows, front_store, past_store}
use Rattle.rows.specs.Row.{bits_in, row_in, row_end, rows_in, rows_end, store_in, store_end}

-- what stands at an offset of the room stands at the front of what comes from there on
count_drop : (room : List ℕ) (at : ℕ) → get_or (drop at room) 0 0 ≡ get_or room at 0
count_drop room at = let z : at + 0 ≡ at = omega arith in get_or-drop at room 0 0 ∙ ap (λ k. get_or room k 0) z

drop_one : (room : List ℕ) (at : ℕ) → drop 1 (drop at room) ≡ drop (suc at) room
drop_one room at = let s : at + 1 ≡ suc at = omega arith in drop-drop 1 at room ∙ ap (λ k. drop k room) s

pub row_drop : (room : List ℕ) (at : ℕ) → front_row (drop at room) ≡ row_in room at
row_drop room at = ap (λ ws. bits_in ws 0 (get_or (drop at room) 0 0)) (drop_one room at) ∙ ap (bits_in (drop (suc at) room) 0) (count_drop room at)

past_drop : (room : List ℕ) (at : ℕ) → past_row (drop at room) ≡ drop (row_end room at) room
past_drop room at =
    let n : ℕ = get_or (drop at room) 0 0 in
    let s : at + (suc 0 + (n + 63) / 64) ≡ suc at + (n + 63) / 64 = omega arith in
    drop-drop (suc 0 + (n + 63) / 64) at room ∙ ap (λ k. drop k room) s ∙ ap (λ m. drop (suc at + (m + 63) / 64) room) (count_drop room at)

rows_drop : (room : List ℕ) (n at : ℕ) → front_rows n (drop at room) ≡ rows_in room n at
rows_drop room zero at = refl
rows_drop room (suc n) at = ap (λ bs. bs ∷ front_rows n (past_row (drop at room))) (row_drop room at) ∙ ap (λ ws. row_in room at ∷ front_rows n ws) (past_drop room at) ∙ ap (λ s. row_in room at ∷ s) (rows_drop room n (row_end room at))

past_rows-drop : (room : List ℕ) (n at : ℕ) → past_rows n (drop at room) ≡ drop (rows_end room n at) room
past_rows-drop room zero at = refl
past_rows-drop room (suc n) at = ap (past_rows n) (past_drop room at) ∙ past_rows-drop room n (row_end room at)

pub store-drop : (room : List ℕ) (at : ℕ) → front_store (drop at room) ≡ store_in room at
store-drop room at =
    ap (λ n. front_rows n (drop 1 (drop at room))) (count_drop room at) ∙ ap (front_rows (get_or room at 0)) (drop_one room at) ∙ rows_drop room (get_or room at 0) (suc at)

pub past_store-drop : (room : List ℕ) (at : ℕ) → past_store (drop at room) ≡ drop (store_end room at) room
past_store-drop room at =
    ap (λ n. past_rows n (drop 1 (drop at room))) (count_drop room at) ∙ ap (past_rows (get_or room at 0)) (drop_one room at) ∙ past_rows-drop room (get_or room at 0) (suc at)

-- the headers' contents of both and the message, at an offset of the room
pub difference-drop : (room : List ℕ) (at : ℕ) (rest : List ℕ)
    → difference (drop at room) rest ≡ store (store_in room at) (store (store_in room (store_end room at)) (row 8 (row_in room (store_end room (store_end room at))) rest))
difference-drop room at rest =
    let second : ℕ = store_end room at in
    let third : ℕ = store_end room second in
    let p : past_store (drop at room) ≡ drop second room = past_store-drop room at in
    let q : past_store (past_store (drop at room)) ≡ drop third room = ap past_store p ∙ past_store-drop room second in
    ap (λ s. store s (store (front_store (past_store (drop at room))) (row 8 (front_row (past_store (past_store (drop at room)))) rest))) (store-drop room at)
    ∙ ap (λ s. store (store_in room at) (store s (row 8 (front_row (past_store (past_store (drop at room)))) rest))) (ap front_store p ∙ store-drop room second)
    ∙ ap (λ bs. store (store_in room at) (store (store_in room second) (row 8 bs rest))) (ap front_row q ∙ row_drop room third)
