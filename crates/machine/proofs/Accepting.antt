-- The loop that runs a parser on an input. Assumes nothing.
use Rattle.std.proofs.Common.{◌≡◌, ℕ, zero, suc, ◌<◌, ◌≤◌, Bool, true, false, cond, eqb, leb, List, [], ◌∷◌, length, get_or, take, drop, sym, refl, ap, ◌∙◌, subst, arith}
use Rattle.std.proofs.lemmas.List.{length-drop}
use Rattle.std.proofs.lemmas.Bool.{and_parts, ltb-true, le-leb, lt-leb, lt-ltb}
use Rattle.model.specs.Parser as M
use Rattle.model.specs.Parser.{accepts_from}
use Rattle.model.specs.Refusal.{every, named_target, fault}
use Rattle.machine.specs.Sound.{Sound}
use Rattle.machine.specs.View.{selected}
use Rattle.machine.proofs.Facts.{sound_at}

-- where a state leads is there
select-named : (n : ℕ) (s : M.Store) (es : List M.Expr) (cs : List M.Case) (t : M.Target) → every (λ c. named_target n c.target) cs ≡ true → named_target n t ≡ true
    → named_target n (M.select s es cs t) ≡ true
select-named n s es [] t a b = b
select-named n s es (c ∷ cs) t a b =
    let p = and_parts _ _ a in
    elim (M.matches s es c.patterns) as (λ f. named_target n (cond f c.target (M.select s es cs t)) ≡ true) [ true ↦ p.0 | false ↦ select-named n s es cs t p.1 b ]

-- what is ahead leads to the same answer, with time enough
pub record Running (p : M.Parser) (answer : Bool) (s : M.Store) (t : M.Target) (bs : List ℕ) : Type 0 where
  pub fuel : ℕ
  pub enough : length bs < fuel
  pub same : M.accepts_from fuel p s t bs ≡ answer
  pub there : named_target (length p.states) t ≡ true

pub at_first : (p : M.Parser) (s : M.Store) (q : ℕ) (bs : List ℕ) → q < length p.states → Running p (M.accepts p s q bs) s (M.state q) bs
at_first p s q bs l = record { fuel = suc (length bs); enough = omega arith; same = refl; there = lt-ltb q _ l }

picked : {b x z : Bool} → b ≡ true → cond b x false ≡ z → x ≡ z
picked {b} {x} {z} e f = sym (ap (λ t. cond t x false) e) ∙ f

unpicked : {b : Bool} (x : Bool) {z : Bool} → b ≡ false → cond b x false ≡ z → false ≡ z
unpicked {b} x {z} e f = sym (ap (λ t. cond t x false) e) ∙ f

-- the answer of a state with so much time
abbrev after : (p : M.Parser) (m : ℕ) (s : M.Store) (z : M.State) (bs : List ℕ) → Bool
after p m s z bs =
    cond (leb (M.width p z) (length bs))
    (M.accepts_from m p (M.run_ops p.sizes z.ops (take (M.width p z) bs) s) (selected (M.run_ops p.sizes z.ops (take (M.width p z) bs) s) z) (drop (M.width p z) bs))
    false

module _ (p : M.Parser) {answer : Bool} {s : M.Store} {bs : List ℕ} {t : M.Target} (q : ℕ) (run : Running p answer s t bs) (t_is : t ≡ M.state q) where
  pub known : q < length p.states
  known = ltb-true q (length p.states) (sym (ap (named_target (length p.states)) t_is) ∙ run.there)

  stepped : (m : ℕ) × (length bs < suc m) × (after p m s (get_or p.states q M.no_state) bs ≡ answer)
  unfolding accepts_from
  stepped = go run.fuel run.enough (subst (λ t. M.accepts_from run.fuel p s t bs ≡ answer) t_is run.same)
    where
      go : (fuel : ℕ) → length bs < fuel → M.accepts_from fuel p s (M.state q) bs ≡ answer
          → (m : ℕ) × (length bs < suc m) × (after p m s (get_or p.states q M.no_state) bs ≡ answer)
      go zero few same = absurd (omega arith)
      go (suc m) few same = (m, few, same)

  module _ {n : ℕ} (n_is : n ≡ M.width p (get_or p.states q M.no_state)) where
    pub stops : length bs < n → false ≡ answer
    stops l =
        let st = stepped in
        let short : leb (M.width p (get_or p.states q M.no_state)) (length bs) ≡ false = lt-leb _ _ (omega arith) in
        unpicked _ short st.2

    module _ (right : fault p ≡ 0) where
      pub takes_some : 0 < n
      takes_some = omega (arith, (sound_at p right q M.no_state known).takes)

      pub goes_on : n ≤ length bs → {u : M.Store} {t' : M.Target} {part rest : List ℕ} → part ≡ take n bs → rest ≡ drop n bs
          → u ≡ M.run_ops p.sizes (get_or p.states q M.no_state).ops part s
          → t' ≡ selected u (get_or p.states q M.no_state)
          → Running p answer u t' rest
      goes_on l {u} {t'} {part} {rest} part_is rest-is u_is t'_is =
          let z : M.State = get_or p.states q M.no_state in
          let w : ℕ = M.width p z in
          let d : M.Store = M.run_ops p.sizes z.ops (take w bs) s in
          let st = stepped in
          let m : ℕ = st.0 in
          let ok : Sound p.sizes (length p.states) z = sound_at p right q M.no_state known in
          let fits : leb w (length bs) ≡ true = le-leb _ _ (omega arith) in
          let e1 : u ≡ d = u_is ∙ ap (λ xs. M.run_ops p.sizes z.ops xs s) (part_is ∙ ap (λ k. take k bs) n_is) in
          let e2 : t' ≡ selected d z = t'_is ∙ ap (λ v. selected v z) e1 in
          let e3 : rest ≡ drop w bs = rest-is ∙ ap (λ k. drop k bs) n_is in
          record {
            fuel = m;
            enough = omega (arith, st.1, takes_some, ap length rest-is, length-drop n bs);
            same = ap (λ v. M.accepts_from m p v t' rest) e1 ∙ ap (λ v. M.accepts_from m p d v rest) e2 ∙ ap (λ v. M.accepts_from m p d (selected d z) v) e3
                ∙ picked fits st.2;
            there = ap (named_target (length p.states)) e2 ∙ select-named (length p.states) d z.keys z.cases z.otherwise ok.named_cases ok.named_otherwise;
          }

module _ (p : M.Parser) {answer : Bool} {s : M.Store} {bs : List ℕ} {t : M.Target} (run : Running p answer s t bs) where
  pub at_accept : t ≡ M.accept → eqb (length bs) 0 ≡ answer
  unfolding accepts_from
  at_accept is = go run.fuel (subst (λ t. M.accepts_from run.fuel p s t bs ≡ answer) is run.same)
    where
      go : (fuel : ℕ) → M.accepts_from fuel p s M.accept bs ≡ answer → eqb (length bs) 0 ≡ answer
      go zero e = e
      go (suc m) e = e

  pub at_reject : t ≡ M.reject → false ≡ answer
  unfolding accepts_from
  at_reject is = go run.fuel (subst (λ t. M.accepts_from run.fuel p s t bs ≡ answer) is run.same)
    where
      go : (fuel : ℕ) → M.accepts_from fuel p s M.reject bs ≡ answer → false ≡ answer
      go zero e = e
      go (suc m) e = e
