-- Which outcome of a select is taken. Assumes nothing.
use Rattle.std.proofs.Common.{◌≡◌, ℕ, zero, suc, ◌<◌, true, false, cond, List, [], ◌∷◌, refl, ap, ◌∙◌, ⊎_elim, not-suc-le-zero, arith}
use Rattle.std.proofs.lemmas.Bool.{cases_Bool}
use Rattle.model.specs.Parser.{Case, State, Store, matches, select}
use Rattle.symbols.specs.Choice.{case_at, outcome_target, Takes, OutcomeIsTaken}

-- with these cases in place of a state's
abbrev with : State → List Case → State
with z cs = record { ops = z.ops; keys = z.keys; cases = cs; otherwise = z.otherwise }

module _ (s : Store) (z : State) where
  first : (c : Case) (cs : List Case) → matches s z.keys c.patterns ≡ true → Takes s (with z (c ∷ cs)) 0
  first c cs e = record { within = omega arith; earlier = λ j l. absurd (not-suc-le-zero l); taken = λ l. e }

  later : (c : Case) (cs : List Case) (o : ℕ) → matches s z.keys c.patterns ≡ false → Takes s (with z cs) o → Takes s (with z (c ∷ cs)) (suc o)
  later c cs o e t = record { within = omega (arith, t.within); earlier = before; taken = λ l. t.taken (omega arith) }
    where
      before : (j : ℕ) → j < suc o → matches s z.keys (case_at (with z (c ∷ cs)) j).patterns ≡ false
      before zero l = e
      before (suc j) l = t.earlier j (omega arith)

  some_of : (cs : List Case) → (o : ℕ) × Takes s (with z cs) o
  some_of [] = (0, record { within = omega arith; earlier = λ j l. absurd (not-suc-le-zero l); taken = λ l. absurd (not-suc-le-zero l) })
  some_of (c ∷ cs) =
      let rest = some_of cs in
      ⊎_elim (λ (e : matches s z.keys c.patterns ≡ true). (0, first c cs e)) (λ (e : matches s z.keys c.patterns ≡ false). (suc rest.0, later c cs rest.0 e rest.1))
      (cases_Bool (matches s z.keys c.patterns))

  leads_of : (cs : List Case) (o : ℕ) → Takes s (with z cs) o → select s z.keys cs z.otherwise ≡ outcome_target (with z cs) o
  leads_of [] o t = refl
  leads_of (c ∷ cs) zero t = ap (λ b. cond b c.target (select s z.keys cs z.otherwise)) (t.taken (omega arith))
  leads_of (c ∷ cs) (suc o) t =
      ap (λ b. cond b c.target (select s z.keys cs z.otherwise)) (t.earlier 0 (omega arith))
      ∙ leads_of cs o (record { within = omega (arith, t.within); earlier = λ j l. t.earlier (suc j) (omega arith); taken = λ l. t.taken (omega arith) })

pub outcome_is_taken : OutcomeIsTaken
outcome_is_taken = record { some = λ s z. some_of s z z.cases; leads = λ s z o t. leads_of s z z.cases o t }
