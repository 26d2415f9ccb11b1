-- What is known of a parser that is right, and of each of its states. Assumes nothing.
use Rattle.std.proofs.Common.{◌≡◌, ℕ, zero, suc, ◌<◌, ◌≤◌, Bool, true, false, cond, List, [], ◌∷◌, map, length, get_or, vec_items, sym, refl, ap, ◌∙◌, subst, not-suc-le-zero, arith, lit<}
use Rattle.std.proofs.lemmas.List.{get_or-map, length-map}
use Rattle.std.proofs.lemmas.Bool.{and_parts, ltb-true, leb-true}
use Rattle.model.specs.Parser.{State, Parser, no_state, ops_width}
use Rattle.model.specs.Refusal.{fault, named, named_state, sized, sized_state, taking, widest, sum}
use Rattle.syntax.specs.View.{state_of, parser_of}
use Rattle.syntax.specs.declared.ast.State.{State as Read}
use Rattle.syntax.specs.declared.checked.Checked.{Checked}
use Rattle.machine.specs.Sound.{Sound}
use Rattle.model.proofs.Every.{every_at}

kept : (b : Bool) (x n : ℕ) → 0 < n → cond b x n ≡ 0 → (b ≡ true) × (x ≡ 0)
kept true x n l e = (refl, e)
kept false x n l e = absurd (omega arith)

pub record Right (p : Parser) : Type 0 where
  pub few : length p.sizes ≤ 64
  pub room : sum p.sizes ≤ 4096
  pub states : length p.states ≤ 64
  pub names : named p ≡ true
  pub sizes : sized p ≡ true
  pub takes : taking p ≡ true
  pub narrow : widest p.sizes p.states ≤ 4096

pub right_from : (p : Parser) → fault p ≡ 0 → Right p
right_from p e =
    let limits = kept _ _ 2 (lit< tt) e in
    let names = kept _ _ 3 (lit< tt) limits.1 in
    let sizes = kept _ _ 4 (lit< tt) names.1 in
    let takes = kept _ _ 5 (lit< tt) sizes.1 in
    let narrow = kept _ _ 6 (lit< tt) takes.1 in
    let counts = and_parts _ _ (and_parts _ _ limits.0).0 in
    record {
      few = leb-true _ _ (and_parts _ _ counts.0).1;
      room = leb-true _ _ (and_parts _ _ counts.1).0;
      states = leb-true _ _ (and_parts _ _ counts.1).1;
      names = names.0;
      sizes = sizes.0;
      takes = takes.0;
      narrow = leb-true _ _ narrow.0;
    }

widest_at : (ns : List ℕ) (zs : List State) (q : ℕ) (d : State) → q < length zs → ops_width ns (get_or zs q d).ops ≤ widest ns zs
widest_at ns [] q d l = absurd (not-suc-le-zero l)
widest_at ns (z ∷ zs) zero d l = omega arith
widest_at ns (z ∷ zs) (suc q) d l = omega (arith, widest_at ns zs q d (omega arith))

pub sound_at : (p : Parser) → fault p ≡ 0 → (q : ℕ) (d : State) → q < length p.states → Sound p.sizes (length p.states) (get_or p.states q d)
sound_at p e q d l =
    let right : Right p = right_from p e in
    let names = and_parts _ _ (every_at (named_state p.sizes (length p.states)) p.states right.names q d l) in
    let n = and_parts _ _ names.0 in
    let m = and_parts _ _ names.1 in
    let sizes = and_parts _ _ (every_at (sized_state p.sizes) p.states right.sizes q d l) in
    let s = and_parts _ _ sizes.1 in
    record {
      named_ops = n.0;
      named_keys = n.1;
      named_cases = m.0;
      named_otherwise = m.1;
      sized_ops = sizes.0;
      sized_keys = s.0;
      sized_cases = s.1;
      takes = ltb-true _ _ (every_at _ p.states right.takes q d l);
      narrow = omega (arith, widest_at p.sizes p.states q d l, right.narrow);
    }

-- a state that was read, as the model has it
pub state_read : (zs : List Read) {q : ℕ} {z : Read} → q < length zs → z ≡ get_or zs q z → state_of z ≡ get_or (map state_of zs) q no_state
state_read zs {q} {z} l read = ap state_of read ∙ sym (get_or-map state_of zs q z no_state l)

pub sound_read : (p : Checked) {zs : List Read} {q : ℕ} {z : Read} → zs ≡ vec_items p.parser.states → q < length zs → z ≡ get_or zs q z
    → Sound (vec_items p.parser.sizes) (length (map state_of (vec_items p.parser.states))) (state_of z)
sound_read p {zs} {q} {z} are l read =
    let same : map state_of zs ≡ map state_of (vec_items p.parser.states) = ap (map state_of) are in
    let there : q < length (map state_of (vec_items p.parser.states)) = omega (arith, length-map zs state_of, ap length same) in
    subst (Sound (vec_items p.parser.sizes) (length (map state_of (vec_items p.parser.states)))) (sym (state_read zs l read ∙ ap (λ xs. get_or xs q no_state) same))
    (sound_at (parser_of p.parser) p.right q no_state there)
