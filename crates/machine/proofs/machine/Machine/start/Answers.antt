use Rattle.std.proofs.Common.{◌≡◌, ℕ, ◌+◌, ◌<◌, ◌≤◌, length, get_or, vec_items, vec_len, ap, ◌∙◌, arith}
use Rattle.std.proofs.lemmas.List.{get_or_read_under}
use Rattle.syntax.specs.View.{parser_of}
use Rattle.machine.specs.Ready.{starts_from}
use Rattle.machine.specs.declared.machine.Machine.{Machine}
use Rattle.machine.proofs.Facts.{right_from}
use Rattle.machine.proofs.Rows.{start_room}
use Rattle.machine.proofs.Ready.{length_starts}
use Rattle.machine.proofs.machine.Machine.start.Goals as goal

-- what a machine says of a header that it has
record At (m : Machine) (h : ℕ) : Type 0 where
  known : h < vec_len m.starts
  start : (x : ℕ) → x ≡ get_or (vec_items m.starts) h x → x ≡ get_or (starts_from 0 (vec_items m.checked.parser.sizes)) h 0
  ends : get_or (starts_from 0 (vec_items m.checked.parser.sizes)) h 0 + get_or (vec_items m.checked.parser.sizes) h 0 ≤ 4096

at : (m : Machine) (h : ℕ) → h < length (vec_items m.checked.parser.sizes) → At m h
at m h k =
    let long : vec_len m.starts ≡ length (vec_items m.starts) = m.starts.ok.0 in
    let same : length (vec_items m.starts) ≡ length (vec_items m.checked.parser.sizes) = ap length m.follow ∙ length_starts 0 (vec_items m.checked.parser.sizes) in
    let inside : h < vec_len m.starts = omega arith in
    record {
      known = inside;
      start = λ x read. get_or_read_under (vec_items m.starts) h (vec_len m.starts) x 0 read inside long ∙ ap (λ xs. get_or xs h 0) m.follow;
      ends = omega (arith, start_room 0 (vec_items m.checked.parser.sizes) h k, (right_from (parser_of m.checked.parser) m.checked.right).room);
    }

pub index-requires : goal.index-requires
index-requires c = (at c.args.self.now c.args.h c.requires).known

pub returns : goal.returns
returns c =
    let a = at c.args.self.now c.args.h c.requires in
    let start = a.start _ c.index.ensures in
    record { value = start; room = omega (arith, start, a.ends) }
