-- From the ends of its parts to the end of a search. Assumes nothing.
use Rattle.std.proofs.Common.{◌≡◌, ℕ, suc, ◌+◌, ◌-◌, ◌*◌, Some, None, Option, Ok, List, ◌++◌, length, get_or, drop, sym, ap, ◌∙◌, subst, arith}
use Rattle.std.proofs.lemmas.List.{get_or-append-add}
use Rattle.std.proofs.Math.Seq.{drop-append-add}
use Rattle.rows.specs.Row.{bits_in, row_in}
use Rattle.reach.specs.Model.{Model, Leads}
use Rattle.reach.specs.Tables.{path, entry}
use Rattle.reach.specs.Held.{conf}
use Rattle.reach.specs.Phases.{Within, Seeded, Explored}
use Rattle.reach.specs.Ways.{WayFrom, SpeltOut}
use Rattle.reach.specs.declared.tables.Tables.{Tables}
use Rattle.reach.proofs.Spellings.{spelled_bits}

-- what a half of the search spent, whatever it found
pub seeded_within : (m : Model) (work left : ℕ) (t : Tables) (bad : Option ℕ) → Seeded m work left t (Ok bad) → Within work left m.count
seeded_within m work left t None h = h.1
seeded_within m work left t (Some last) h = h.1

pub explored_within : (m : Model) (work left roots : ℕ) (t : Tables) (bad : Option ℕ) → Explored m work left roots t (Ok bad) → Within work left (2 * m.count)
explored_within m work left roots t None h = h.1
explored_within m work left roots t (Some last) h = h.1

-- the message leads along the way
pub leads_along : (m : Model) (t : Tables) (work left root last start : ℕ) (message : List ℕ) → WayFrom m t last root → SpeltOut t work left root last message → start ≡ conf (entry t) root → Leads m start (row_in message 0)
leads_along m t work left root last start message way spelt start_is =
    subst (λ x. Leads m x (row_in message 0)) (sym start_is)
    (subst (Leads m (conf (entry t) root)) (sym spelt.row)
    (record {
      begins = way.begins;
      bits = spelled_bits (entry t) (path t) (suc root) (last - root);
      ends = way.ends;
    }))

-- what stands in the second part of the room
module _ (front message : List ℕ) (at : ℕ) (at_is : at ≡ length front) where
  pub word_after : get_or (front ++ message) at 0 ≡ get_or message 0 0
  word_after = let from : at ≡ length front + 0 = omega arith in ap (λ i. get_or (front ++ message) i 0) from ∙ get_or-append-add front message 0 0

  pub row_after : row_in (front ++ message) at ≡ row_in message 0
  row_after =
      let from : suc at ≡ length front + 1 = omega arith in
      ap (bits_in (drop (suc at) (front ++ message)) 0) word_after
      ∙ ap (λ k. bits_in (drop k (front ++ message)) 0 (get_or message 0 0)) from
      ∙ ap (λ ws. bits_in ws 0 (get_or message 0 0)) (drop-append-add front message 1)
