-- What a search through all pairs found, told of the two parsers.
use Rattle.std.proofs.Common.{◌≡◌, ℕ, ◌+◌, ◌%◌, ◌<◌, ◌≤◌, List, sym, refl, ap, ◌∙◌, subst, inl, arith}
use Rattle.std.proofs.lemmas.Nat.{mul-le}
use Rattle.model.specs.Promise.{Equivalent, Distinguished, config_count, pair_count}
use Rattle.rows.specs.Row.{row_in, store_in, store_end}
use Rattle.reach.specs.Model.{Safe, Leads}
use Rattle.product.specs.Pair.{pair_model}
use Rattle.product.specs.View.{comparison_of}
use Rattle.product.specs.declared.product.Product.{Product}
use Rattle.product.proofs.Pairs.{safe_is_equivalent, leading_distinguishes}
use Rattle.model.specs.Request as M
use Rattle.model.specs.Request.{compare, refused, verdict, equivalent, distinguished, exhausted}
use Rattle.model.specs.Promise.{RightAnswer, Answered}
use Rattle.machine.specs.View.{parser_in}
use Rattle.product.specs.declared.side.Side.{Side}
use Rattle.compare.specs.Budget.{compared, Told}
use Rattle.compare.specs.Headed.{Headed, header_room, second_in}
use Rattle.theory.specs.Number.{number_config}
use Rattle.product.proofs.Exponents.{count_some}
use Rattle.compare.proofs.Suffix.{row_same}

module _ (s : Product) where
  pub safe_told : Safe (pair_model (comparison_of s)) → Equivalent (comparison_of s)
  safe_told = safe_is_equivalent (comparison_of s) s.first.side.machine.checked.right s.second.side.machine.checked.right s.first.side.begins s.second.side.begins

  -- the message stands in the room, and the headers before it
  pub leads_told : (pair at after : ℕ) (before room : List ℕ) → after ≡ at + header_room s → Leads (pair_model (comparison_of s)) pair (row_in before after) → Headed s pair at before room
      → Distinguished (comparison_of s) (store_in room at) (store_in room (store_end room at)) (row_in room (store_end room (store_end room at)))
  leads_told pair at after before room after_is leads headed =
      let message : row_in room (store_end room (store_end room at)) ≡ row_in before after =
      ap (row_in room) headed.end ∙ row_same before room (at + header_room s) headed.rest ∙ ap (row_in before) (sym after_is) in
      let told = leading_distinguishes (comparison_of s) s.first.side.machine.checked.right s.second.side.machine.checked.right s.first.side.begins s.second.side.begins pair (row_in before after) leads in
      subst (λ bs. Distinguished (comparison_of s) (store_in room at) (store_in room (store_end room at)) bs) (sym message)
      (subst (λ t. Distinguished (comparison_of s) (store_in room at) t (row_in before after)) (sym headed.second)
      (subst (λ u. Distinguished (comparison_of s) u (number_config (second_in s) (pair % config_count (second_in s))).store (row_in before after)) (sym headed.first) told))

-- the promise, of what was told

module _ (s t : Side) (work room : ℕ) where
  pairs_some : 0 < pair_count (compared s t work room)
  pairs_some =
      mul-le 1 1 (config_count (parser_in s.machine)) (config_count (parser_in t.machine)) (count_some (parser_in s.machine)) (count_some (parser_in t.machine))

  pub told_right : (left : ℕ) (a : M.Answer) → Told (compared s t 0 0) work left a → left ≤ room → RightAnswer (compare (compared s t work room)) a
  told_right left (refused j k) told l = absurd told
  told_right left (verdict b) told l = absurd told
  told_right left (equivalent w r) told l = (told.0, omega (arith, told.1), told.2)
  told_right left (distinguished u v bs w r) told l = (told.0, omega (arith, told.1), told.2)
  told_right left (exhausted w r) told l = (omega (arith, told.0), omega (arith, told.1), inl told.0)

  pub told_answered : (left : ℕ) (a : M.Answer) → Told (compared s t 0 0) work left a → Answered (compare (compared s t work room)) a
  told_answered left (refused j k) told = absurd told
  told_answered left (verdict b) told = absurd told
  told_answered left (equivalent w r) told = (λ _. refl, λ _. refl)
  told_answered left (distinguished u v bs w r) told = (λ _. refl, λ _. refl)
  told_answered left (exhausted w r) told = (
    λ plenty. absurd (omega (arith, told.2, pairs_some, plenty.0)),
    λ small. absurd (omega (arith, told.2, small.0, small.1)),
  )
