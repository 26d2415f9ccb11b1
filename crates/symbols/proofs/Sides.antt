-- What one side of a leap is, from what was written. Assumes nothing.
use Rattle.std.proofs.Common.{◌≡◌, ℕ, suc, ◌+◌, ◌<◌, ◌≤◌, true, ◌⊎◌, List, [], ◌∷◌, ◌++◌, length, take, sym, refl, ap, ◌∙◌, subst, ap₂, ⊎_elim, arith}
use Rattle.std.proofs.lemmas.List.{length-append, map-append}
use Rattle.std.proofs.lemmas.Bool.{false≢true}
use Rattle.model.specs.Parser as M
use Rattle.model.specs.Refusal.{every, sized_op, sum}
use Rattle.model.specs.Config.{Config, needs, steps, transition}
use Rattle.syntax.specs.View.{target_of}
use Rattle.syntax.specs.declared.ast.Target.TheVariants.{Accept, Reject}
use Rattle.machine.specs.View.{parser_in, selected, sizes_in, state_in}
use Rattle.machine.specs.declared.machine.Machine.{Machine}
use Rattle.theory.specs.Leap.{is_reject}
use Rattle.theory.proofs.Waiting.{steps_none, steps_more, step_completes, waiting, completing}
use Rattle.machine.specs.Row.{part, headers}
use Rattle.symbols.specs.View.{in_row, symbols_in, header_bits}
use Rattle.symbols.specs.Symbol.{symbol, sense, row_sense, store_sense, Below}
use Rattle.symbols.specs.Side.{needed, at_positions, Told, When, Within, WithinTop}
use Rattle.machine.specs.Window.{Written}
use Rattle.symbols.specs.declared.point.Point.{Point}
use Rattle.symbols.specs.declared.point.Places.{Places}
use Rattle.symbols.specs.declared.point.Leapt.TheVariants.{Waits, Walked, Ended}
use Rattle.symbols.proofs.Natural.{ops_map}
use Rattle.machine.proofs.Rows.{length_part, part_at, same_headers}
use Rattle.symbols.proofs.Placing.{map-part, map-headers, take_part}
use Rattle.machine.specs.Sinks.{write_join}
use Rattle.machine.proofs.Writes.{written_part}
use Rattle.symbols.proofs.Bounds.{Stays, StoresStay, symbols_stay, append_stays, stays_at, positions_stay, stays_row, ops_stay}

-- a row of fresh symbols stands for what is at their positions
module _ (ν : ℕ → ℕ) where
  sense-symbol : (x : ℕ) → sense ν (symbol x) ≡ ν x
  sense-symbol x = let e : 2 + x ≡ suc (suc x) = omega arith in ap (sense ν) e

  part-sense : (k n : ℕ) → row_sense ν (part symbol k n) ≡ part ν k n
  part-sense k n = map-part (sense ν) symbol ν k k n (λ i l. sense-symbol (k + i))

  headers-sense : (k : ℕ) (ns : List ℕ) → store_sense ν (headers symbol k ns) ≡ headers ν k ns
  headers-sense k ns = map-headers (sense ν) symbol ν k k ns (λ i l. sense-symbol (k + i))

  both_sense : (k n j m : ℕ) → row_sense ν (part symbol k n ++ part symbol j m) ≡ part ν k n ++ part ν j m
  both_sense k n j m = map-append (sense ν) (part symbol k n) (part symbol j m) ∙ ap₂ ◌++◌ (part-sense k n) (part-sense j m)

-- what was written
pub heads_numbered : {f : ℕ → ℕ} (hs ns : List ℕ) (head n : ℕ) → Written f (in_row hs) (part symbol head n) 0 n → sum ns ≤ n → headers (in_row hs) 0 ns ≡ headers symbol head ns
heads_numbered hs ns head n w room = same_headers (in_row hs) symbol 0 head ns (λ i l. let h : i < n = omega arith in w.wrote i h ∙ part_at symbol head n i h)

pub buffer_numbered : {f g : ℕ → ℕ} (bs : List ℕ) (sofar fresh n k : ℕ) → Written f g (part symbol sofar n) 0 n → Written g (in_row bs) (part symbol fresh k) n k → n + k ≤ length bs
    → take (n + k) bs ≡ part symbol sofar n ++ part symbol fresh k
buffer_numbered {f} {g} bs sofar fresh n k first second room =
    let e : n ≡ 0 + n = omega arith in
    let long : length (part symbol sofar n ++ part symbol fresh k) ≡ n + k = length-append (part symbol sofar n) (part symbol fresh k) ∙ ap₂ ◌+◌ (length_part symbol sofar n) (length_part symbol fresh k) in
    take_part bs (n + k) room
    ∙ written_part long (write_join (sym (length_part symbol sofar n)) first (subst (λ j. Written g (in_row bs) (part symbol fresh k) j k) e second))

-- after reject nothing happens
abbrev ended : M.Store → Config
ended s = record { target = M.reject; store = s; buffer = [] }

reject_stays : (p : M.Parser) (s : M.Store) (w : M.Bits) → steps p (ended s) w ≡ ended s
unfolding needs transition
reject_stays p s [] = steps_none p (ended s)
reject_stays p s (b ∷ w) = steps_more p (ended s) b w ∙ ap (λ x. steps p x w) (step_completes p (ended s) b (omega arith)) ∙ reject_stays p s w

module _ (m : Machine) (a : Point) (at : Places) (k : ℕ) (heads buffer : List ℕ) where
  -- the symbols of the bits that were taken and of those that are
  abbrev pub taking : List ℕ
  taking = part symbol at.sofar a.taken ++ part symbol at.fresh k

  -- the symbols of the header bits before
  abbrev pub before : M.Store
  before = headers symbol at.head (sizes_in m)

  pub waits : a.taken + k < needed m a → symbols_in m heads ≡ before → take (a.taken + k) buffer ≡ taking → Told m a at k Waits heads buffer
  waits l hs bs ν =
      waiting (parser_in m) (at_positions ν m a at) (part ν at.fresh k) (omega (arith, length_part ν at.sofar a.taken, length_part ν at.fresh k))
      ∙ ap₂ (λ s b. record { target = target_of a.target; store = s; buffer = b }) (sym (ap (store_sense ν) hs ∙ headers-sense ν at.head (sizes_in m)))
      (sym (ap (row_sense ν) bs ∙ both_sense ν at.sofar a.taken at.fresh k))

  pub walks : {q : ℕ} → target_of a.target ≡ M.state q → a.taken < needed m a → a.taken + k ≡ needed m a → every (sized_op (sizes_in m)) (state_in m q).ops ≡ true
      → symbols_in m heads ≡ M.run_ops (sizes_in m) (state_in m q).ops taking before → Told m a at k (Walked q) heads buffer
  unfolding transition
  walks {q} is ready all sized hs ν =
      let ns : List ℕ = sizes_in m in
      let b : M.Bits = part ν at.sofar a.taken ++ part ν at.fresh k in
      completing (parser_in m) (at_positions ν m a at) (part ν at.fresh k) (omega (arith, length_part ν at.sofar a.taken))
      (omega (arith, length_part ν at.sofar a.taken, length_part ν at.fresh k))
      ∙ ap (transition (parser_in m) (at_positions ν m a at) b) is
      ∙ ap (λ s. record { target = selected s (state_in m q); store = s; buffer = [] })
      (sym (ap (store_sense ν) hs ∙ sym (ops_map (sense ν) refl refl ns (state_in m q).ops taking before sized)
      ∙ ap₂ (λ x s. M.run_ops ns (state_in m q).ops x s) (both_sense ν at.sofar a.taken at.fresh k) (headers-sense ν at.head ns)))

  pub accepted : target_of a.target ≡ M.accept → a.taken < needed m a → 0 < k → a.taken + k ≤ needed m a → symbols_in m heads ≡ before → Told m a at k Ended heads buffer
  unfolding transition needs
  accepted is ready some within hs ν =
      let one : needed m a ≡ 1 = ap (needs (parser_in m)) is in
      let b : M.Bits = part ν at.sofar a.taken ++ part ν at.fresh k in
      completing (parser_in m) (at_positions ν m a at) (part ν at.fresh k) (omega (arith, length_part ν at.sofar a.taken))
      (omega (arith, length_part ν at.sofar a.taken, length_part ν at.fresh k))
      ∙ ap (transition (parser_in m) (at_positions ν m a at) b) is
      ∙ ap ended (sym (ap (store_sense ν) hs ∙ headers-sense ν at.head (sizes_in m)))

  pub rejected : target_of a.target ≡ M.reject → a.taken < needed m a → symbols_in m heads ≡ before → Told m a at k Ended heads buffer
  unfolding needs
  rejected is ready hs ν =
      let one : needed m a ≡ 1 = ap (needs (parser_in m)) is in
      let none : a.taken ≡ 0 = omega arith in
      ap (λ x. steps (parser_in m) x (part ν at.fresh k)) (ap₂ (λ t n. record { target = t; store = headers ν at.head (sizes_in m); buffer = part ν at.sofar n }) is none)
      ∙ reject_stays (parser_in m) (headers ν at.head (sizes_in m)) (part ν at.fresh k) ∙ ap ended (sym (ap (store_sense ν) hs ∙ headers-sense ν at.head (sizes_in m)))

  -- an end, whichever it is
  pub ends : (a.target ≡ Accept) ⊎ (a.target ≡ Reject) → a.taken < needed m a → 0 < k → Within m a k → symbols_in m heads ≡ before → Told m a at k Ended heads buffer
  ends e ready some within hs =
      ⊎_elim (λ (is : a.target ≡ Accept). accepted (ap target_of is) ready some (within (ap (λ t. is_reject (target_of t)) is)) hs) (λ (is : a.target ≡ Reject). rejected (ap target_of is) ready hs) e

  pub ends_when : (a.target ≡ Accept) ⊎ (a.target ≡ Reject) → When m a k Ended
  ends_when e no' =
      ⊎_elim (λ (is : a.target ≡ Accept). ap target_of is) (λ (is : a.target ≡ Reject). absurd (false≢true (sym no' ∙ ap (λ t. is_reject (target_of t)) is))) e

  -- what ops made of what was written
  pub walked_are : (hs : List ℕ) {z : M.State} (q : ℕ) → z ≡ state_in m q → symbols_in m heads ≡ M.run_ops (sizes_in m) z.ops (take (a.taken + k) buffer) (symbols_in m hs)
      → symbols_in m hs ≡ before → take (a.taken + k) buffer ≡ taking → symbols_in m heads ≡ M.run_ops (sizes_in m) (state_in m q).ops taking before
  walked_are hs {z} q is ran first took =
      ran ∙ ap (λ y. M.run_ops (sizes_in m) y.ops (take (a.taken + k) buffer) (symbols_in m hs)) is ∙ ap₂ (λ x s. M.run_ops (sizes_in m) (state_in m q).ops x s) took first

  -- no symbol is of another position
  module _ (top : ℕ) (under : WithinTop m a at k top) where
    pub heads_below : symbols_in m heads ≡ before → Below top (in_row heads) (header_bits m)
    heads_below hs = stays_row top (in_row heads) (sizes_in m) (subst (StoresStay top) (sym hs) (positions_stay top at.head (sizes_in m) under.heads))

    taking_stays : Stays top taking
    taking_stays =
        append_stays top (part symbol at.sofar a.taken) (part symbol at.fresh k) (symbols_stay top at.sofar a.taken under.buffered) (symbols_stay top at.fresh k under.fresh)

    pub walked_below : (os : List M.Op) → every (sized_op (sizes_in m)) os ≡ true → symbols_in m heads ≡ M.run_ops (sizes_in m) os taking before → Below top (in_row heads) (header_bits m)
    walked_below os sized hs =
        stays_row top (in_row heads) (sizes_in m)
        (subst (StoresStay top) (sym hs) (ops_stay top (sizes_in m) os taking before sized taking_stays (positions_stay top at.head (sizes_in m) under.heads)))

    pub buffer_below : a.taken + k ≤ length buffer → take (a.taken + k) buffer ≡ taking → Below top (in_row buffer) (a.taken + k)
    buffer_below room bs = stays_at top (in_row buffer) (a.taken + k) (subst (Stays top) (sym (sym (take_part buffer (a.taken + k) room) ∙ bs)) taking_stays)
