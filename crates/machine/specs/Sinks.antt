-- The laws of what a value is held to, and of a store that it is written into. Assumes nothing.
use Rattle.std.proofs.Common.{◌≡◌, ℕ, ◌+◌, ◌-◌, ◌<◌, ◌≤◌, List, ◌++◌, length, take, drop, sym, refl, ap, ◌∙◌, subst, ⊎_elim, arith, append_assoc}
use Rattle.std.proofs.lemmas.List.{length-append, take-take, take_at, drop_at, drop-take, get_or_append_left, get_or-append_right}
use Rattle.std.proofs.lemmas.Bool.{cases_lt}
use Rattle.machine.specs.Row.{bit_in}
use Rattle.machine.specs.Sink.{SinkLaws}
use Rattle.machine.specs.Window.{Written, Wrote}
use Rattle.machine.specs.declared.eval.Held.{Held}
use Rattle.machine.specs.declared.eval.Filling.{Filling}

-- one row after another
pub write_join : {f g h : ℕ → ℕ} {xs ys : List ℕ} {k n m : ℕ} → n ≡ length xs → Written f g xs k n → Written g h ys (k + n) m → Written f h (xs ++ ys) k (n + m)
write_join {f} {g} {h} {xs} {ys} {k} {n} {m} long first second =
    record {
      wrote = λ j l.
          ⊎_elim
          (λ (lt : j < n). second.below (k + j) (omega arith) ∙ first.wrote j lt ∙ sym (get_or_append_left xs ys 0 j (omega arith)))
          (λ (le : n ≤ j).
          let e : k + j ≡ k + n + (j - n) = omega arith in
          ap h e ∙ second.wrote (j - n) (omega arith) ∙ sym (get_or-append_right xs ys n j 0 (sym long) le))
          (cases_lt j n);
      below = λ j l. second.below j (omega arith) ∙ first.below j l;
      above = λ j l. second.above j (omega arith) ∙ first.above j (omega arith);
    }

-- and what is written next is written after both
pub wrote_joins : {f g h : ℕ → ℕ} {at to end : ℕ} (xs ys : List ℕ) → Wrote f g at to xs → Wrote g h to end ys → Wrote f h at end (xs ++ ys)
wrote_joins {f} {g} {h} {at} {to} {end} xs ys first second =
    let long : length xs + length ys ≡ length (xs ++ ys) = sym (length-append xs ys) in
    record {
      on = omega (arith, first.on, second.on, long);
      wrote = subst (λ m. Written f h (xs ++ ys) at m) long (write_join refl first.wrote (subst (λ k. Written g h ys k (length ys)) first.on second.wrote));
    }

-- bits that are held to a row apart from its front, and behind it
front : (bs xs ys : List ℕ) → (take (length xs) bs ≡ xs → ⊥) → take (length (xs ++ ys)) bs ≡ xs ++ ys → ⊥
front bs xs ys apart e =
    apart (sym (take-take (length xs) (length (xs ++ ys)) bs (omega (arith, length-append xs ys))) ∙ ap (take (length xs)) e ∙ take_at xs ys (length xs) refl)

behind : (bs cs xs ys : List ℕ) → bs ≡ xs ++ cs → (take (length ys) cs ≡ ys → ⊥) → take (length (xs ++ ys)) bs ≡ xs ++ ys → ⊥
behind bs cs xs ys is apart e =
    let n : ℕ = length xs in
    apart
    (ap (take (length ys)) (sym (drop_at xs cs n refl) ∙ sym (ap (drop n) is)) ∙ sym (drop-take n (length ys) bs) ∙ ap (λ j. drop n (take j bs)) (sym (length-append xs ys)) ∙ ap (drop n) e
    ∙ drop_at xs ys n refl)

pub held_laws : SinkLaws {S = Held} (λ s. bit_in s.store.now.words) (λ s. 4096) (λ s n. n ≤ length s.bits.now) (λ s t xs. (t.store.now ≡ s.store.now) × (s.bits.now ≡ xs ++ t.bits.now))
    (λ s xs. take (length xs) s.bits.now ≡ xs → ⊥)
held_laws =
    record {
      same_row = λ s t xs took. ap (λ x. bit_in x.words) took.0;
      same_places = λ s t xs took. refl;
      fits_fewer = λ s m n l fits. omega arith;
      fits_behind = λ s t xs n took fits. omega (arith, ap length took.1, length-append xs t.bits.now);
      joins = λ s t u xs ys first second. (second.0 ∙ first.0, first.1 ∙ ap (λ zs. xs ++ zs) second.1 ∙ sym (append_assoc xs ys u.bits.now));
      refuses_first = λ s xs ys apart. front s.bits.now xs ys apart;
      refuses_second = λ s t xs ys took apart. behind s.bits.now t.bits.now xs ys took.1 apart;
    }

pub filling_laws : SinkLaws {S = Filling} (λ s. bit_in s.before.now.words) (λ s. 4096) (λ s n. s.at + n ≤ 4096)
    (λ s t xs. (t.before.now ≡ s.before.now) × (t.store.ghost_name ≡ s.store.ghost_name) × Wrote (bit_in s.store.now.words) (bit_in t.store.now.words) s.at t.at xs)
    (λ s xs. ⊥)
filling_laws =
    record {
      same_row = λ s t xs took. ap (λ x. bit_in x.words) took.0;
      same_places = λ s t xs took. refl;
      fits_fewer = λ s m n l fits. omega arith;
      fits_behind = λ s t xs n took fits. omega (arith, took.2.on);
      joins = λ s t u xs ys first second. (second.0 ∙ first.0, second.1 ∙ first.1, wrote_joins xs ys first.2 second.2);
      refuses_first = λ s xs ys no'. no';
      refuses_second = λ s t xs ys took no'. no';
    }
