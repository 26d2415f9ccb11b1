-- What an expression's value is handed to: what it does with the parts, and with the whole. Assumes nothing.
use Rattle.std.specs.Prelude.{◌≡◌, ℕ, ◌+◌, ◌-◌, ◌≤◌, List, ◌++◌, length, Option, MatchOption}
use Rattle.machine.specs.Window.{window}
use Rattle.machine.specs.declared.want.Want.{Want}

-- for its row, that row's places, how many fit, that it took what it was handed, and that it refuses it
pub record SinkLaws {S : Type 0} (row : S → ℕ → ℕ) (places : S → ℕ) (Fits : S → ℕ → Type 0) (Took : S → S → List ℕ → Type 0) (Refuses : S → List ℕ → Type 0) : Type 0 where
  -- it goes on with the same row
  pub same_row : (s t : S) (xs : List ℕ) → Took s t xs → row t ≡ row s
  pub same_places : (s t : S) (xs : List ℕ) → Took s t xs → places t ≡ places s
  -- where so many fit fewer do, and behind what it took as many fewer
  pub fits_fewer : (s : S) (m n : ℕ) → m ≤ n → Fits s n → Fits s m
  pub fits_behind : (s t : S) (xs : List ℕ) (n : ℕ) → Took s t xs → Fits s (length xs + n) → Fits t n
  -- to take two one after the other is to take both, and to refuse one is to refuse both
  pub joins : (s t u : S) (xs ys : List ℕ) → Took s t xs → Took t u ys → Took s u (xs ++ ys)
  pub refuses_first : (s : S) (xs ys : List ℕ) → Refuses s xs → Refuses s (xs ++ ys)
  pub refuses_second : (s t : S) (xs ys : List ℕ) → Took s t xs → Refuses t ys → Refuses s (xs ++ ys)

-- what is wanted of v
abbrev pub wanted : List ℕ → Want → List ℕ
wanted v w = window v w.skip w.most

-- and then of what comes after it
pub record Left (v : List ℕ) (w x : Want) : Type 0 where
  pub skip : x.skip ≡ w.skip - length v
  pub most : x.most ≡ w.most - length (wanted v w)

-- what is wanted of v was handed on: it was taken, or refused
abbrev pub Handed : {S : Type 0} → (S → S → List ℕ → Type 0) → (S → List ℕ → Type 0) → List ℕ → Want → S → S → Option Want → Type 0
Handed Took Refuses v w s t r = MatchOption r (Refuses s (wanted v w)) (λ x. Left v w x × Took s t (wanted v w))

-- the same, where x is what is still wanted afterwards
abbrev pub Poured : {S : Type 0} → (S → S → List ℕ → Type 0) → (S → List ℕ → Type 0) → List ℕ → Want → Want → S → S → Option (Unit {0}) → Type 0
Poured Took Refuses v w x s t r = MatchOption r (Refuses s (wanted v w)) (λ _. Left v w x × Took s t (wanted v w))
