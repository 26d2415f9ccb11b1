-- What a list that was read means. Assumes nothing.
use Rattle.std.specs.Prelude.{◌⊎◌, Bool, List, [], ◌∷◌, ◌++◌, Some, None, vec_items, Option, Vec}
use Rattle.std.specs.List.{AllZip}
use Rattle.std.specs.declared.alloc.Global.{Global}
use Rattle.model.specs.Parser.{Parser}
use Rattle.model.specs.Refusal.{every, shallow_state}

-- each element means one of the model's
abbrev pub Each : {X Y : Type 0} → (X → Y → Type 0) → Vec X Global → List Y → Type 0
Each means v ys = AllZip means (vec_items v) ys

-- one of them was not kept
abbrev pub Lacks : {X Y : Type 0} → (Option X → Y → Type 0) → List Y → Type 0
Lacks means [] = ⊥
Lacks means (y ∷ ys) = means None y ⊎ Lacks means ys

-- each element was kept, and means one of the model's; or there is no list, since one was not
abbrev pub EachKept : {X Y : Type 0} → (Option X → Y → Type 0) → Option (Vec X Global) → List Y → Type 0
EachKept means (Some v) ys = AllZip (λ x. means (Some x)) (vec_items v) ys
EachKept means None ys = Lacks means ys

abbrev pub shallow_parser : Parser → Bool
shallow_parser p = every shallow_state p.states

-- one more element, where all were kept
abbrev pub appended : {X : Type 0} → Option (List X) → Option X → Option (List X)
appended (Some xs) (Some x) = Some (xs ++ x ∷ [])
appended (Some xs) None = None
appended None o = None
