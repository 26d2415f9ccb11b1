use Rattle.std.proofs.Common.{◌≡◌, ℕ, ◌++◌, List, length, take, is_some, Some, None, Option, MatchOption, sym, ◌∙◌}
use Rattle.model.specs.Parser.{same_bits}
use Rattle.syntax.specs.View.{expr_of}
use Rattle.machine.specs.Row.{bit_in}
use Rattle.machine.specs.Sink.{Left, wanted}
use Rattle.machine.specs.View.{sizes_in, contents}
use Rattle.machine.specs.declared.want.Want.{Want}
use Rattle.machine.proofs.Rows.{sizes_kept}
use Rattle.machine.proofs.Same.{same_decides, not_same}
use Rattle.machine.proofs.Values.{value_long}
use Rattle.machine.proofs.Handing.{held_whole, apart_whole}
use Rattle.machine.proofs.machine.Machine.equals.Goals as goal

-- a row that was held to as many bits as it has
told : (v bs rest : List ℕ) (w : Want) (P : Type 0) (r : Option Want) → length v ≡ length bs → w.skip ≡ 0 → w.most ≡ length bs
    → MatchOption r (take (length (wanted v w)) bs ≡ wanted v w → ⊥) (λ x. Left v w x × (P × (bs ≡ wanted v w ++ rest)))
    → is_some r ≡ same_bits v bs
told v bs rest w P None long skip most apart = sym (not_same v bs (apart_whole v bs long skip most apart))
told v bs rest w P (Some x) long skip most held = sym ((same_decides v bs).1 (held_whole v bs rest long skip most held.1.1))

pub returns : goal.returns
returns c =
    let ns = sizes_in c.args.self.now in
    let ok = c.requires.proper in
    let long = value_long (contents c.args.self.now c.args.store.now) ns (sizes_kept (bit_in c.args.store.now.words) 0 ns) (expr_of c.args.e.now) ok.named ok.sized in
    c.is_some.ensures ∙ told _ c.args.bits.now c.hand.new.sink.bits.now c.first.result _ c.hand.result (long ∙ sym c.requires.wide) c.first.ensures.skip c.first.ensures.most c.hand.ensures
