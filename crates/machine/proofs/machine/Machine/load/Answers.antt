use Rattle.std.proofs.Common.{◌≡◌, ℕ, List, map, length, get_or, take, set, vec_items, ap, ◌∙◌, arith}
use Rattle.std.proofs.lemmas.List.{length-map, take_all}
use Rattle.model.specs.Refusal.{are_bits}
use Rattle.syntax.specs.View.{parser_of}
use Rattle.rows.specs.Row.{bit_in}
use Rattle.machine.specs.View.{contents, sizes_in}
use Rattle.machine.proofs.Facts.{right_from}
use Rattle.machine.proofs.Rows.{sizes_kept}
use Rattle.machine.proofs.Loading.{load_none, load_more, load_all, header_read, store_length}
use Rattle.machine.proofs.machine.Machine.load.Goals as goal

pub loop-h-init : goal.loop-h-init
loop-h-init c =
    let ns = sizes_in c.args.self.now in
    load_none ns (map vec_items c.args.headers.now) (contents c.args.self.now c.empty-store.result) c.requires (sizes_kept (bit_in c.empty-store.result.words) 0 ns)

pub overflow_cast-h : goal.overflow_cast-h
overflow_cast-h c =
    omega (
      arith,
      store_length (sizes_in c.args.self.now) (map vec_items c.args.headers.now) c.requires,
      length-map c.args.headers.now vec_items,
      (right_from (parser_of c.args.self.now.checked.parser) c.args.self.now.checked.right).few,
    )

pub put-requires : goal.put-requires
put-requires c =
    let r = header_read (sizes_in c.args.self.now) c.args.headers.now c.requires c.loop-h-test.true c.index-headers-h.is in
    record { known = r.1.known; bits = ap are_bits c.deref.ensures.value ∙ r.1.bits; long = omega (arith, ap length c.deref.ensures.value, r.1.wide) }

pub loop-h-preserved : goal.loop-h-preserved
loop-h-preserved c =
    let hs = c.args.headers.now in
    let bs : List ℕ = vec_items c.index-headers-h.result in
    let r = header_read (sizes_in c.args.self.now) hs c.requires c.loop-h-test.true c.index-headers-h.is in
    let n : ℕ = get_or (sizes_in c.args.self.now) c.loop-h.h 0 in
    let whole : take n c.deref.result.now ≡ bs = ap (take n) c.deref.ensures.value ∙ take_all n bs (omega (arith, r.1.wide)) in
    load_more bs c.loop-h.invariant (omega (arith, c.loop-h-test.true, length-map hs vec_items)) r.0
    (c.put.ensures ∙ ap (set (contents c.args.self.now c.loop-h.store) c.loop-h.h) whole)

pub returns : goal.returns
returns c = load_all c.loop-h.invariant (omega (arith, length-map c.args.headers.now vec_items))
