-- Reading one thing after another: what the parts read, the whole reads.
use Rattle.std.proofs.Common.{◌≡◌, ℕ, ◌≤◌, ltb, cond, List, length, get_or, IsErrAnd, Ok, Err, Result, sym, refl, ap, ◌∙◌, subst, arith, MatchResult}
use Rattle.std.proofs.lemmas.Bool.{ltb-false, le-ltb, cond_both}
use Rattle.std.proofs.lemmas.Result.{err_from_is_err_and}
use Rattle.std.proofs.lemmas.List.{get_or_past}
use Rattle.format.specs.Read.{Read, got, failed, bind, read_number, read_tagged}
use Rattle.scan.specs.Reads.{Place, left, Took, Stopped, Failed, ceased, no_memory, Is}
use Rattle.scan.specs.Skim.{read_tag}
use Rattle.std.specs.declared.alloc.AllocError.{AllocError}
use Rattle.scan.specs.declared.fault.Fault.{Fault}
use Rattle.scan.specs.declared.fault.Fault.TheVariants.{Memory, Garbled}

-- nothing more is to be read
pub took : {X Y : Type 0} {means : X → Y → Type 0} {p : Place} {x : X} (y : Y) → p.at ≤ length p.bytes → means x y → Took (got y (left p)) means p x p
took y l m = record { within = l; same = refl; value = y; reads = refl; meant = m }

-- no memory for what was read
pub no_room : {Y : Type 0} {r : Read Y} {p : Place} {error : AllocError} → Stopped r p p (Memory error)
no_room = record { same = refl; why = no_memory }

-- read by a definition that is equal
pub took_by : {X Y : Type 0} {r s : Read Y} {means : X → Y → Type 0} {old new : Place} {x : X} → r ≡ s → Took s means old x new → Took r means old x new
took_by p u = record { within = u.within; same = u.same; value = u.value; reads = p ∙ u.reads; meant = u.meant }

failed_by : {Y : Type 0} {r s : Read Y} {bytes : List ℕ} {e : Fault} → r ≡ s → Failed s bytes e → Failed r bytes e
failed_by p (ceased u) = ceased (record { within = u.within; reads = p ∙ u.reads })
failed_by p no_memory = no_memory

pub stopped_by : {Y : Type 0} {r s : Read Y} {old new : Place} {e : Fault} → r ≡ s → Stopped s old new e → Stopped r old new e
stopped_by p u = record { same = u.same; why = failed_by p u.why }

-- the whole, from how it goes on after the first
module _ {X Y Z : Type 0} {r : Read Y} {means : X → Y → Type 0} {old mid : Place} {x : X} (κ : Y → List ℕ → Read Z) (t : Took r means old x mid) where
  goes_on : bind r κ ≡ κ t.value (left mid)
  goes_on = ap (λ s. bind s κ) t.reads

  pub then_took : {W : Type 0} {means' : W → Z → Type 0} {w : W} {new : Place} → Took (κ t.value (left mid)) means' mid w new → Took (bind r κ) means' old w new
  then_took u = record { within = u.within; same = u.same ∙ t.same; value = u.value; reads = goes_on ∙ u.reads; meant = u.meant }

  pub then_stopped : {e : Fault} {new : Place} → Stopped (κ t.value (left mid)) mid new e → Stopped (bind r κ) old new e
  then_stopped {e} u = record { same = u.same ∙ t.same; why = failed_by goes_on (subst (λ b. Failed (κ t.value (left mid)) b e) t.same u.why) }

  -- the same at a result as a whole
  pub then_reads : {W : Type 0} (means' : W → Z → Type 0) (new : Place) (res : Result W Fault) → MatchResult res (λ w. Took (κ t.value (left mid)) means' mid w new) (λ e. Stopped (κ t.value (left mid)) mid new e)
      → MatchResult res (λ w. Took (bind r κ) means' old w new) (λ e. Stopped (bind r κ) old new e)
  then_reads means' new (Ok w) u = then_took u
  then_reads means' new (Err e) u = then_stopped u

-- the first fails
here_failed : {Y Z : Type 0} {r : Read Y} {bytes : List ℕ} (κ : Y → List ℕ → Read Z) {e : Fault} → Failed r bytes e → Failed (bind r κ) bytes e
here_failed κ (ceased u) = ceased (record { within = u.within; reads = ap (λ s. bind s κ) u.reads })
here_failed κ no_memory = no_memory

pub here_stopped : {Y Z : Type 0} {r : Read Y} {old new : Place} (κ : Y → List ℕ → Read Z) {e : Fault} → Stopped r old new e → Stopped (bind r κ) old new e
here_stopped κ u = record { same = u.same; why = here_failed κ u.why }

-- of as many choices as there are kinds, the tag picks one
module _ {Y : Type 0} (choices : List ℕ → List (Read Y)) (kinds : ℕ) (all : (bs : List ℕ) → length (choices bs) ≡ kinds) where
  by_tag : (bs : List ℕ) → read_tagged choices bs ≡ bind (read_tag kinds bs) (λ tag rest. get_or (choices rest) tag (failed bs))
  by_tag bs = go (read_number 1 bs)
    where
      one : (tag : ℕ) (rest : List ℕ) → get_or (choices rest) tag (failed bs) ≡ bind (cond (ltb tag kinds) (got tag rest) (failed bs)) (λ tag rest. get_or (choices rest) tag (failed bs))
      one tag rest =
          cond_both (ltb tag kinds) (got tag rest) (failed bs) (λ s. get_or (choices rest) tag (failed bs) ≡ bind s (λ tag rest. get_or (choices rest) tag (failed bs)))
          (λ e. refl)
          (λ e. get_or_past (choices rest) tag (failed bs) (omega (arith, all rest, ltb-false tag kinds e)))

      go : (s : Read ℕ) → bind s (λ tag rest. get_or (choices rest) tag (failed bs)) ≡ bind (bind s (λ tag rest. cond (ltb tag kinds) (got tag rest) (failed bs))) (λ tag rest. get_or (choices rest) tag (failed bs))
      go (got tag rest) = one tag rest
      go (failed rest) = refl

  pub no_tag : {old new : Place} {e : Fault} → Stopped (read_tag kinds (left old)) old new e → Stopped (read_tagged choices (left old)) old new e
  no_tag {old} u = stopped_by (by_tag (left old)) (here_stopped _ u)

  module _ {old mid : Place} {tag : ℕ} (k : ℕ) (t : Took (read_tag kinds (left old)) (Is (λ n. n)) old tag mid) (is : tag ≡ k) where
    picked : get_or (choices (left mid)) t.value (failed (left old)) ≡ get_or (choices (left mid)) k (failed (left old))
    picked = ap (λ v. get_or (choices (left mid)) v (failed (left old))) (sym t.meant ∙ is)

    pub tag_took : {W : Type 0} {means : W → Y → Type 0} {w : W} {new : Place} → Took (get_or (choices (left mid)) k (failed (left old))) means mid w new → Took (read_tagged choices (left old)) means old w new
    tag_took u = took_by (by_tag (left old)) (then_took _ t (took_by picked u))

    pub tag_stopped : {e : Fault} {new : Place} → Stopped (get_or (choices (left mid)) k (failed (left old))) mid new e → Stopped (read_tagged choices (left old)) old new e
    tag_stopped u = stopped_by (by_tag (left old)) (then_stopped _ t (stopped_by picked u))

pub bad_tag : (kinds : ℕ) {old mid : Place} {tag : ℕ} → Took (read_number 1 (left old)) (Is (λ n. n)) old tag mid → old.at ≤ length old.bytes → kinds ≤ tag → Stopped (read_tag kinds (left old)) old mid (Garbled old.at)
bad_tag kinds {old} {mid} {tag} t l over =
    record {
      same = t.same;
      why = ceased (record {
        within = l;
        reads = ap (λ s. bind s (λ tag rest. cond (ltb tag kinds) (got tag rest) (failed (left old)))) t.reads
            ∙ ap (λ b. cond b (got t.value (left mid)) (failed (left old))) (le-ltb t.value kinds (subst (λ n. kinds ≤ n) t.meant over));
      });
    }

-- the exit of a `?`
pub exit : {X Y : Type 0} {r : Read Y} {old new : Place} {e : Fault} (P : X → Type 0) (res : Result X Fault) → IsErrAnd res (λ y. y ≡ e) → Stopped r old new e → MatchResult res P (λ y. Stopped r old new y)
exit {X} {Y} {r} {old} {new} {e} P res by u =
    let p = err_from_is_err_and res by in
    subst (λ z. MatchResult z P (λ y. Stopped r old new y)) (sym p.1) (subst (λ y. Stopped r old new y) (sym p.2) u)

-- what fails in a part fails in the whole, and is handed on by `?`
pub ruleset exits = (exit, here_stopped, then_stopped, no_room)
