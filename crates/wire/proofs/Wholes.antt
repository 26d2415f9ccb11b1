-- A request that takes all bytes, and where they cease to be one.
use Rattle.std.proofs.Common.{◌≡◌, ℕ, suc, ◌+◌, ◌-◌, ◌<◌, ◌≤◌, cond, List, [], ◌∷◌, length, get_or, take, drop, IsErrAnd, Result, sym, ap, ◌∙◌, subst, arith, MatchResult}
use Rattle.std.proofs.lemmas.List.{drop_all, drop_more, length-drop, length-take-le}
use Rattle.std.proofs.lemmas.Result.{err_from_is_err_and}
use Rattle.std.proofs.lemmas.Bool.{le-leb, lt-leb}
use Rattle.model.specs.Request as M
use Rattle.model.specs.Request.{garbled, parse, compare}
use Rattle.format.specs.Read.{Read, got}
use Rattle.format.specs.Format.{read_request, whole, too_long, asked_from}
use Rattle.scan.specs.Reads.{Place, Took, Stopped, Failed, ceased, no_memory}
use Rattle.scan.specs.declared.fault.Fault.{Fault}
use Rattle.scan.specs.declared.fault.Fault.TheVariants.{Memory, Garbled}
use Rattle.wire.specs.Asked.{Stands, Unasked}
use Rattle.wire.specs.declared.request.Request.{Request}
use Rattle.wire.specs.declared.request.Request.TheVariants.{Parse, Compare}

module _ {X : Type 0} (means : X → M.Request → Type 0) {r : Read M.Request} {old now : Place} {x : X} (t : Took r means old x now) where
  pub whole_took : now.at ≡ length now.bytes → means x (whole (length old.bytes) r)
  whole_took l =
      let all : r ≡ got t.value [] = t.reads ∙ ap (got t.value) (drop_all now.at now.bytes (omega arith)) in
      subst (means x) (sym (ap (whole (length old.bytes)) all)) t.meant

  pub left_over : now.at < length now.bytes → whole (length old.bytes) r ≡ garbled now.at
  left_over l =
      let more : r ≡ got t.value (get_or now.bytes now.at 0 ∷ drop (now.at + 1) now.bytes) = t.reads ∙ ap (got t.value) (drop_more now.bytes now.at 0 l) in
      let off : length old.bytes - suc (length (drop (now.at + 1) now.bytes)) ≡ now.at = omega (arith, length-drop (now.at + 1) now.bytes, ap length t.same) in
      ap (whole (length old.bytes)) more ∙ ap garbled off

failed_whole : (bytes : List ℕ) {r : Read M.Request} {e : Fault} → Failed r bytes e → Unasked (whole (length bytes) r) e
failed_whole bytes (ceased {k} u) =
    let off : length bytes - length (drop k bytes) ≡ k = omega (arith, length-drop k bytes, u.within) in
    ap (whole (length bytes)) u.reads ∙ ap garbled off
failed_whole bytes no_memory = tt

pub whole_stopped : {r : Read M.Request} {old new : Place} {e : Fault} → Stopped r old new e → Unasked (whole (length old.bytes) r) e
whole_stopped {old = old} u = failed_whole old.bytes u.why

-- the exit of a `?`
pub unasked : {X : Type 0} (P : X → Type 0) (q : M.Request) (e : Fault) (res : Result X Fault) → IsErrAnd res (λ y. y ≡ e) → Unasked q e → MatchResult res P (Unasked q)
unasked P q e res by u =
    let p = err_from_is_err_and res by in
    subst (λ z. MatchResult z P (Unasked q)) (sym p.1) (subst (λ y. Unasked q y) (sym p.2) u)

-- of at most 2^20 bytes, and of more
pub short : (bytes : List ℕ) → length bytes ≤ 1048576 → whole (length bytes) (read_request bytes) ≡ asked_from bytes
short bytes l =
    sym (ap (λ b. cond b (whole (length bytes) (read_request bytes)) (too_long (whole 1048576 (read_request (take 1048576 bytes))))) (le-leb (length bytes) 1048576 l))

pub long : (bytes : List ℕ) → 1048576 < length bytes → asked_from bytes ≡ too_long (whole 1048576 (read_request (take 1048576 bytes)))
long bytes l =
    ap (λ b. cond b (whole (length bytes) (read_request bytes)) (too_long (whole 1048576 (read_request (take 1048576 bytes))))) (lt-leb (length bytes) 1048576 l)

-- what the first 2^20 bytes say of all
pub cut_failed : (q : M.Request) (e : Fault) → Unasked q e → Unasked (too_long q) e
cut_failed q (Garbled k) u = ap too_long u
cut_failed q (Memory e) u = tt

pub cut_whole : (bytes : List ℕ) → 1048576 < length bytes → asked_from bytes ≡ too_long (whole (length (take 1048576 bytes)) (read_request (take 1048576 bytes)))
cut_whole bytes l = long bytes l ∙ ap (λ n. too_long (whole n (read_request (take 1048576 bytes)))) (sym (length-take-le 1048576 bytes (omega arith)))

pub cut_stands : (r : Request) (q : M.Request) → Stands r q → too_long q ≡ garbled 1048576
cut_stands (Parse r) q s = ap too_long s.is
cut_stands (Compare r) q s = ap too_long s.is
