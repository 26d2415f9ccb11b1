use Rattle.std.proofs.Common.{◌≡◌, ℕ, ◌%◌, ◌^◌, ◌<◌, ◌≤◌, List, length, get_or, sym, refl, ap, ◌∙◌, ap₂, arith}
use Rattle.std.proofs.lemmas.Nat.{mod_below, pow_pos}
use Rattle.model.specs.Parser as M
use Rattle.model.specs.Parser.{run_ops}
use Rattle.model.specs.Refusal.{are_bits, sum}
use Rattle.machine.specs.Row.{bit_in, headers}
use Rattle.machine.specs.View.{parser_in, selected, sizes_in, state_count, state_in, width_in}
use Rattle.theory.proofs.Facts.{width-widest}
use Rattle.product.specs.declared.counted.Counted.{Counted}
use Rattle.product.specs.Pair.{store_count}
use Rattle.product.specs.View.{store_of}
use Rattle.product.proofs.BitNumbers.{length-number_bits, are_bits-number_bits}
use Rattle.product.proofs.Exponents.{bits_small, headers-narrow}
use Rattle.product.proofs.Rows.{contents_word, store_of_low}
use Rattle.product.proofs.counted.Counted.walk.Goals as goal

module _ (s : Counted) where
  abbrev sizes : List ℕ
  sizes = sizes_in s.side.machine

  few : (q n : ℕ) → q < state_count s.side.machine → n ≡ width_in s.side.machine q → n ≤ 64
  few q n l is = omega (arith, is, width-widest sizes (parser_in s.side.machine).states q M.no_state l, bits_small s)

  narrow : sum sizes ≤ 64
  narrow = omega (arith, bits_small s)

  -- what is in the headers is in the first word
  contents_are : (ws : List ℕ) {w : ℕ} → w ≡ get_or ws 0 0 → headers (bit_in ws) 0 sizes ≡ store_of sizes w
  contents_are ws is = contents_word ws sizes narrow ∙ sym (ap (store_of sizes) is)

  kept : (ws : List ℕ) {w r : ℕ} → w ≡ get_or ws 0 0 → r ≡ w % 2 ^ s.side.header_bits → store_of sizes r ≡ headers (bit_in ws) 0 sizes
  kept ws {w} is low = ap (store_of sizes) (low ∙ ap (λ h. w % 2 ^ h) s.side.headers) ∙ store_of_low sizes w ∙ sym (contents_are ws is)

  kept_below : (w : ℕ) {r : ℕ} → r ≡ w % 2 ^ s.side.header_bits → r < store_count (parser_in s.side.machine)
  kept_below w low = omega (arith, low, ap (λ h. w % 2 ^ h) s.side.headers, mod_below w (store_count (parser_in s.side.machine)) (pow_pos (sum sizes)))

pub spread-part-requires : goal.spread-part-requires
spread-part-requires c = few c.args.self.now c.args.q c.args.n c.requires.known c.requires.wide

pub slice_bounds-part-end : goal.slice_bounds-part-end
slice_bounds-part-end c = omega (arith, few c.args.self.now c.args.q c.args.n c.requires.known c.requires.wide, c.spread-part.ensures.long)

pub slice_bounds-walk-end : goal.slice_bounds-walk-end
slice_bounds-walk-end c = sym (ap length c.spread-part.ensures.bits ∙ length-number_bits c.args.n c.args.bits)

pub walk-target-requires : goal.walk-target-requires
walk-target-requires c =
    let part = c.spread-part.ensures.bits in
    record {
      known = c.requires.known;
      bits = ap are_bits part ∙ are_bits-number_bits c.args.n c.args.bits;
      wide = ap length part ∙ length-number_bits c.args.n c.args.bits ∙ c.requires.wide;
    }

pub low-requires : goal.low-requires
low-requires c = headers-narrow c.args.self.now

pub returns : goal.returns
returns c =
    let s : Counted = c.args.self.now in
    let ns : List ℕ = sizes_in s.side.machine in
    let z : M.State = state_in s.side.machine c.args.q in
    let part = c.spread-part.ensures.bits in
    let after = kept s c.walk-target.new.store.words c.word.ensures c.low.ensures in
    let before = contents_are s c.from_word-store.result.words (sym c.from_word-store.ensures.first) in
    record {
      done = after ∙ c.walk-target.ensures.done ∙ ap₂ (run_ops ns z.ops) part before;
      leads = c.walk-target.ensures.leads ∙ sym (ap (λ t. selected t z) after);
      below = kept_below s c.word.result c.low.ensures;
      empty = refl;
    }
