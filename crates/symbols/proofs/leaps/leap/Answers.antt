use Rattle.std.proofs.Common.{◌≡◌, ℕ, ◌+◌, ◌<◌, ◌≤◌, true, List, length, sym, ap, ◌∙◌, subst, arith}
use Rattle.std.proofs.lemmas.List.{length-take-le}
use Rattle.model.specs.Parser.{ops_width}
use Rattle.model.specs.Refusal.{every, sized_op}
use Rattle.syntax.specs.View.{target_of}
use Rattle.machine.specs.View.{sizes_in, state_in, width_in}
use Rattle.machine.specs.declared.machine.Machine.{Machine}
use Rattle.theory.specs.Leap.{is_reject}
use Rattle.symbols.specs.Side.{needed}
use Rattle.symbols.specs.declared.point.Point.{Point}
use Rattle.symbols.specs.declared.point.Places.{Places}
use Rattle.symbols.proofs.Reading.{indexed, state_is, sound}
use Rattle.symbols.proofs.Points.{state_known, state_needs}
use Rattle.symbols.proofs.Sides.{heads_numbered, buffer_numbered, waits, walks, ends, ends_when, walked_are, heads_below, walked_below, buffer_below}
use Rattle.symbols.proofs.leaps.leap.Goals as goal

pub perform-requires : goal.perform-requires
perform-requires c =
    let m : Machine = c.args.machine.now in
    let a : Point = c.args.point in
    let q : ℕ = c.in-State.q in
    let l = state_known m a c.requires.stands c.in-State.is in
    let at_most : a.taken + c.args.k ≤ needed m a = c.requires.within (ap (λ t. is_reject (target_of t)) c.in-State.is) in
    let wide : width_in m q ≡ a.taken + c.args.k = omega (arith, at_most, c.if-point-k.false, c.width.ensures, state_needs m a c.in-State.is) in
    record {
      sound = sound m q l c.index-state.ensures;
      wide = length-take-le (a.taken + c.args.k) c.number-in-State-2.new.row (omega arith) ∙ sym (ap (λ z. ops_width (sizes_in m) z.ops) (state_is m q l c.index-state.ensures) ∙ wide);
      there = omega (arith, c.requires.there, c.number.auto.row);
      aside = c.requires.aside;
    }

pub returns-then-point-k : goal.returns-then-point-k
returns-then-point-k c =
    let m : Machine = c.args.machine.now in
    let a : Point = c.args.point in
    let at : Places = c.args.places in
    let k : ℕ = c.args.k in
    let hs : List ℕ = c.number.new.row in
    let bs : List ℕ = c.number-in-State-2.new.row in
    let heads = heads_numbered hs (sizes_in m) at.head (length c.args.heads.now) c.number.ensures c.requires.there in
    let room : a.taken + k ≤ length bs = omega (arith, c.requires.room, c.number-in-State.auto.row, c.number-in-State-2.auto.row) in
    let buffer = buffer_numbered bs at.sofar at.fresh a.taken k c.number-in-State.ensures c.number-in-State-2.ensures room in
    let short : a.taken + k < needed m a = omega (arith, c.if-point-k.true, c.width.ensures, state_needs m a c.in-State.is) in
    record {
      when = short;
      told = waits m a at k hs bs short heads buffer;
      heads = λ top under. heads_below m a at k hs bs top under heads;
      buffer = λ _ top under. buffer_below m a at k hs bs top under room buffer;
    }

pub returns-else-point-k : goal.returns-else-point-k
returns-else-point-k c =
    let m : Machine = c.args.machine.now in
    let a : Point = c.args.point in
    let at : Places = c.args.places in
    let k : ℕ = c.args.k in
    let q : ℕ = c.in-State.q in
    let first : List ℕ = c.number.new.row in
    let hs : List ℕ = c.perform.new.heads in
    let bs : List ℕ = c.number-in-State-2.new.row in
    let l = state_known m a c.requires.stands c.in-State.is in
    let is = state_is m q l c.index-state.ensures in
    let sized = subst (λ z. every (sized_op (sizes_in m)) z.ops ≡ true) is (sound m q l c.index-state.ensures).sized_ops in
    let heads = heads_numbered first (sizes_in m) at.head (length c.args.heads.now) c.number.ensures c.requires.there in
    let room : a.taken + k ≤ length bs = omega (arith, c.requires.room, c.number-in-State.auto.row, c.number-in-State-2.auto.row) in
    let buffer = buffer_numbered bs at.sofar at.fresh a.taken k c.number-in-State.ensures c.number-in-State-2.ensures room in
    let at_most : a.taken + k ≤ needed m a = c.requires.within (ap (λ t. is_reject (target_of t)) c.in-State.is) in
    let all : a.taken + k ≡ needed m a = omega (arith, at_most, c.if-point-k.false, c.width.ensures, state_needs m a c.in-State.is) in
    let walked = walked_are m a at k hs bs first q is c.perform.ensures heads buffer in
    record {
      when = (ap target_of c.in-State.is, l);
      told = walks m a at k hs bs (ap target_of c.in-State.is) c.requires.stands.ready all sized walked;
      heads = λ top under. walked_below m a at k hs bs top under (state_in m q).ops sized walked;
      buffer = λ _ top under. buffer_below m a at k hs bs top under room buffer;
    }

pub returns-in-Accept : goal.returns-in-Accept
returns-in-Accept c =
    let m : Machine = c.args.machine.now in
    let a : Point = c.args.point in
    let at : Places = c.args.places in
    let k : ℕ = c.args.k in
    let hs : List ℕ = c.number.new.row in
    let bs : List ℕ = c.args.buffer.now in
    let heads = heads_numbered hs (sizes_in m) at.head (length c.args.heads.now) c.number.ensures c.requires.there in
    record {
      when = ends_when m a at k hs bs c.in-Accept.is;
      told = ends m a at k hs bs c.in-Accept.is c.requires.stands.ready c.requires.some c.requires.within heads;
      heads = λ top under. heads_below m a at k hs bs top under heads;
      buffer = λ e. absurd (let z : ◌≡◌ {A = ℕ} 0 1 = cc in omega arith);
    }
