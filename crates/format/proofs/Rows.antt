-- A row of bits, and things that are counted, are read back.
use Rattle.std.proofs.Common.{◌≡◌, ℕ, Bool, true, List, [], ◌∷◌, ◌++◌, length, refl}
use Rattle.std.proofs.lemmas.Bool.{and_parts}
use Rattle.model.specs.Refusal.{every}
use Rattle.format.specs.Read.{Read, got, bind, read_bytes, read_many, read_counted, read_row}
use Rattle.format.specs.Written.{many, counted, row, fits, fit_row, fit_counted}
use Rattle.format.proofs.Numbers.{ReadsBack, bind_got, read_bytes-append, number_back}

pub row_back : (k : ℕ) → ReadsBack (read_row k) (row k) (fit_row k)
row_back k bs rest ok = bind_got (λ n r. read_bytes n r) (number_back k (length bs) (bs ++ rest) ok) (read_bytes-append bs rest (length bs) refl)

module _ {X : Type 0} (read : List ℕ → Read X) (write : X → List ℕ → List ℕ) (ok : X → Bool) (back : ReadsBack read write ok) where
  many_back : (xs : List X) (rest : List ℕ) → every ok xs ≡ true → read_many read (length xs) (many write xs rest) ≡ got xs rest
  many_back [] rest all = refl
  many_back (x ∷ xs) rest all =
      let h = and_parts (ok x) (every ok xs) all in
      bind_got (λ y r. bind (read_many read (length xs) r) (λ ys r'. got (y ∷ ys) r')) (back x (many write xs rest) h.0)
      (bind_got (λ ys r'. got (x ∷ ys) r') (many_back xs rest h.1) refl)

  pub counted_back : ReadsBack (read_counted read) (counted write) (fit_counted ok)
  counted_back xs rest all =
      let h = and_parts (fits 2 (length xs)) (every ok xs) all in
      bind_got (λ n r. read_many read n r) (number_back 2 (length xs) (many write xs rest) h.0) (many_back xs rest h.1)
