use Rattle.std.proofs.Common.{ℕ, List, None, sym, refl, subst}
use Rattle.model.specs.Parser.{value}
use Rattle.syntax.specs.View.{expr_of}
use Rattle.machine.specs.Row.{headers}
use Rattle.machine.specs.Sink.{Poured, wanted}
use Rattle.machine.specs.View.{sizes_in}
use Rattle.machine.proofs.Exprs.{header_long, header_room, bits_small, slice_long, join_row}
use Rattle.machine.proofs.Handing.{piece_left, header_wanted, slice_wanted, first_refused, then_poured}
use Rattle.machine.proofs.Windows.{inside}
use Rattle.machine.proofs.machine.Machine.+pour.Goals as goal

pub header-requires-clause-there : goal.header-requires-clause-there
header-requires-clause-there g t c =
    let ns : List ℕ = sizes_in c.args.self.now in
    let f : ℕ → ℕ = g.S.Sink.source c.args.sink.now in
    let w = c.args.want.now in
    let named = c.requires.proper.named in
    let long = header_long ns f c.in-Header.is named c.start.ensures.value c.size.ensures in
    header_room ns f c.in-Header.is named c.start.ensures.value c.size.ensures _ _ _ (inside _ w.skip w.most long c.of-from.ensures.passed c.of-from.ensures.used) c.requires.there

pub returns-in_err-header-in-Header : goal.returns-in_err-header-in-Header
returns-in_err-header-in-Header g t c =
    let f : ℕ → ℕ = g.S.Sink.source c.args.sink.now in
    let used = c.of-from.ensures in
    let part = header_wanted (sizes_in c.args.self.now) f c.in-Header.is c.requires.proper.named c.start.ensures.value c.size.ensures c.args.want.now used.passed used.used in
    rw c.from_residual.ensures (subst (g.S.Sink.Refuses c.args.sink.now) (sym part) c.in_err-header-in-Header.ensures)

pub returns-in_ok-header-in-Header : goal.returns-in_ok-header-in-Header
returns-in_ok-header-in-Header g t c =
    let ns : List ℕ = sizes_in c.args.self.now in
    let f : ℕ → ℕ = g.S.Sink.source c.args.sink.now in
    let v : List ℕ = value (headers f 0 ns) (expr_of c.args.e.now) in
    let named = c.requires.proper.named in
    let used = c.of-from.ensures in
    let long = header_long ns f c.in-Header.is named c.start.ensures.value c.size.ensures in
    let part = header_wanted ns f c.in-Header.is named c.start.ensures.value c.size.ensures c.args.want.now used.passed used.used in (
      piece_left v c.args.want.now c.after.result long used.passed used.used c.after.ensures.skip c.after.ensures.most,
      subst (g.S.Sink.Took c.args.sink.now c.header.new.self) (sym part) c.in_ok-header-in-Header.ensures,
    )

pub constant-requires-clause-bits : goal.constant-requires-clause-bits
constant-requires-clause-bits g t c =
    bits_small (headers (g.S.Sink.source c.args.sink.now) 0 (sizes_in c.args.self.now)) c.in-Bits.is c.deref.ensures.value (sizes_in c.args.self.now) c.requires.proper.sized _ _

pub returns-in_err-pour-in-Slice : goal.returns-in_err-pour-in-Slice
returns-in_err-pour-in-Slice g t c =
    let f : ℕ → ℕ = g.S.Sink.source c.args.sink.now in
    let used = c.of-from-in-Slice.ensures in
    let part = slice_wanted (sizes_in c.args.self.now) f c.in-Slice.is c.deref-in-Slice.ensures c.requires.proper c.args.want.now used.passed used.used in
    rw c.from_residual-in_err-pour-in-Slice.ensures (subst (g.S.Sink.Refuses c.args.sink.now) (sym part) c.in_err-pour-in-Slice.ensures)

pub returns-in_ok-pour-in-Slice : goal.returns-in_ok-pour-in-Slice
returns-in_ok-pour-in-Slice g t c =
    let ns : List ℕ = sizes_in c.args.self.now in
    let f : ℕ → ℕ = g.S.Sink.source c.args.sink.now in
    let v : List ℕ = value (headers f 0 ns) (expr_of c.args.e.now) in
    let ok = c.requires.proper in
    let used = c.of-from-in-Slice.ensures in
    let long = slice_long ns f c.in-Slice.is c.deref-in-Slice.ensures ok.named ok.sized in
    let part = slice_wanted ns f c.in-Slice.is c.deref-in-Slice.ensures ok c.args.want.now used.passed used.used in (
      piece_left v c.args.want.now c.after-in-Slice.result long used.passed used.used c.after-in-Slice.ensures.skip c.after-in-Slice.ensures.most,
      subst (g.S.Sink.Took c.args.sink.now c.pour.new.sink) (sym part) c.in_ok-pour-in-Slice.ensures.1,
    )

pub returns-in_err-pour-in-Join : goal.returns-in_err-pour-in-Join
returns-in_err-pour-in-Join g t c =
    let s = headers (g.S.Sink.source c.args.sink.now) 0 (sizes_in c.args.self.now) in
    rw c.from_residual-in_err-pour-in-Join.ensures
    (subst (λ v. Poured g.S.Sink.Took g.S.Sink.Refuses v c.args.want.now c.pour-in-Join.new.want c.args.sink.now c.pour-in-Join.new.sink None)
    (join_row s {y = c.in-Join.right.value} c.in-Join.is c.deref-in-Join.ensures refl)
    (first_refused (value s (expr_of c.deref-in-Join.result.now)) (value s (expr_of c.in-Join.right.value)) c.args.want.now g.met.S.Sink.laws c.args.sink.now c.in_err-pour-in-Join.ensures))

pub returns-in_ok-pour-in-Join : goal.returns-in_ok-pour-in-Join
returns-in_ok-pour-in-Join g t c =
    let ns : List ℕ = sizes_in c.args.self.now in
    let s = headers (g.S.Sink.source c.args.sink.now) 0 ns in
    let laws = g.met.S.Sink.laws in
    let a : List ℕ = value s (expr_of c.deref-in-Join.result.now) in
    let b : List ℕ = value s (expr_of c.deref-in-Join-2.result.now) in
    let first = c.in_ok-pour-in-Join.ensures in
    let same = laws.same_row c.args.sink.now c.pour-in-Join.new.sink (wanted a c.args.want.now) first.1 in
    subst (λ v. Poured g.S.Sink.Took g.S.Sink.Refuses v c.args.want.now c.pour-in-Join-2.new.want c.args.sink.now c.pour-in-Join-2.new.sink c.pour-in-Join-2.result)
    (join_row s c.in-Join.is c.deref-in-Join.ensures c.deref-in-Join-2.ensures)
    (then_poured a b c.args.want.now laws c.args.sink.now c.pour-in-Join.new.sink c.pour-in-Join-2.new.sink c.pour-in-Join-2.new.want c.pour-in-Join-2.result first.0 first.1
    (subst (λ f. Poured g.S.Sink.Took g.S.Sink.Refuses (value (headers f 0 ns) (expr_of c.deref-in-Join-2.result.now)) c.pour-in-Join.new.want c.pour-in-Join-2.new.want c.pour-in-Join.new.sink c.pour-in-Join-2.new.sink c.pour-in-Join-2.result)
    same c.pour-in-Join-2.ensures))
