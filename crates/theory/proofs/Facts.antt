-- What is known of each state of a parser that is right. Assumes nothing.
use Rattle.std.proofs.Common.{◌≡◌, ℕ, zero, suc, ◌<◌, ◌≤◌, Bool, true, false, cond, List, [], ◌∷◌, length, get_or, refl, not-suc-le-zero, arith, lit<}
use Rattle.std.proofs.lemmas.Bool.{and_parts, ltb-true, leb-true}
use Rattle.model.specs.Parser.{State, Parser, no_state, ops_width}
use Rattle.model.specs.Refusal.{every, fault, named, named_op, named_expr, named_target, named_state, sized, sized_op, sized_expr, sized_patterns, sized_state, taking, widest}
use Rattle.model.proofs.Every.{every_at}

-- of headers with these sizes and so many states
pub record Sound (ns : List ℕ) (n : ℕ) (z : State) : Type 0 where
  pub named_ops : every (named_op ns) z.ops ≡ true
  pub named_keys : every (named_expr ns) z.keys ≡ true
  pub named_cases : every (λ c. named_target n c.target) z.cases ≡ true
  pub named_otherwise : named_target n z.otherwise ≡ true
  pub sized_ops : every (sized_op ns) z.ops ≡ true
  pub sized_keys : every (sized_expr ns) z.keys ≡ true
  pub sized_cases : every (λ c. sized_patterns ns z.keys c.patterns) z.cases ≡ true
  pub takes : 0 < ops_width ns z.ops
  pub narrow : ops_width ns z.ops ≤ 4096

kept : (b : Bool) (x n : ℕ) → 0 < n → cond b x n ≡ 0 → (b ≡ true) × (x ≡ 0)
kept true x n l e = (refl, e)
kept false x n l e = absurd (omega arith)

-- the four checks of a parser's states
record Right (p : Parser) : Type 0 where
  names : named p ≡ true
  sizes : sized p ≡ true
  takes : taking p ≡ true
  narrow : widest p.sizes p.states ≤ 4096

right_from : (p : Parser) → fault p ≡ 0 → Right p
right_from p e =
    let limits = kept _ _ 2 (lit< tt) e in
    let names = kept _ _ 3 (lit< tt) limits.1 in
    let sizes = kept _ _ 4 (lit< tt) names.1 in
    let takes = kept _ _ 5 (lit< tt) sizes.1 in
    let narrow = kept _ _ 6 (lit< tt) takes.1 in
    record { names = names.0; sizes = sizes.0; takes = takes.0; narrow = leb-true _ _ narrow.0 }

-- no state takes more than the widest
pub width-widest : (ns : List ℕ) (zs : List State) (q : ℕ) (d : State) → q < length zs → ops_width ns (get_or zs q d).ops ≤ widest ns zs
width-widest ns [] q d l = absurd (not-suc-le-zero l)
width-widest ns (z ∷ zs) zero d l = omega arith
width-widest ns (z ∷ zs) (suc q) d l = omega (arith, width-widest ns zs q d (omega arith))

pub sound_at : (p : Parser) → fault p ≡ 0 → (q : ℕ) → q < length p.states → Sound p.sizes (length p.states) (get_or p.states q no_state)
sound_at p e q l =
    let right : Right p = right_from p e in
    let names = and_parts _ _ (every_at (named_state p.sizes (length p.states)) p.states right.names q no_state l) in
    let n = and_parts _ _ names.0 in
    let m = and_parts _ _ names.1 in
    let sizes = and_parts _ _ (every_at (sized_state p.sizes) p.states right.sizes q no_state l) in
    let s = and_parts _ _ sizes.1 in
    record {
      named_ops = n.0;
      named_keys = n.1;
      named_cases = m.0;
      named_otherwise = m.1;
      sized_ops = sizes.0;
      sized_keys = s.0;
      sized_cases = s.1;
      takes = ltb-true _ _ (every_at _ p.states right.takes q no_state l);
      narrow = omega (arith, width-widest p.sizes p.states q no_state l, right.narrow);
    }

-- where there is a state, the widest takes a bit at least
pub widest_some : (p : Parser) → fault p ≡ 0 → (q : ℕ) → q < length p.states → 0 < widest p.sizes p.states
widest_some p e q l = omega (arith, (sound_at p e q l).takes, width-widest p.sizes p.states q no_state l)
