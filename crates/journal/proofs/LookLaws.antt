-- A look shows what recovery will leave.
use Rattle.std.specs.Prelude.{◌≡◌, refl, ◌≢◌, Bool, true, false, List, ℕ, ◌<◌, eqb}
use Rattle.std.proofs.Common.{sym, ap, ◌∙◌, arith, eqb-true}
use Rattle.std.proofs.Math.Option.{Option, none, some}
use Rattle.std.proofs.lemmas.Bool.{eqb-false}
use Rattle.lists.specs.Lists.{up_from, find}
use Rattle.lists.specs.RunLaws.{find-run}
use Rattle.lists.specs.Block.{block}
use Rattle.store.specs.Change.{copies}
use Rattle.store.specs.CopyLaws.{block-copies, block-copies-rest}
use Rattle.journal.specs.Journal.{Disk, count_in, name_in, image_in, holds, recover, image_for, look_at, look}
use Rattle.journal.specs.Cut.{Whole}
use Rattle.journal.specs.CopyLaws.{find-misses}
use Rattle.journal.proofs.RecoverLaws.{recover-no, recover-yes, copying}

-- a block is shown as recovery will leave it
pub look-recovers : {m : ℕ} {d : Disk} → Whole m d → (k : ℕ) → k < m → look d k ≡ block (recover d).store k
unfolding look
look-recovers {m} {d} w k l = go (holds d) refl
  where
    j : List ℕ
    j = d.journal

    missed : find (λ i. eqb (name_in j i) k) (up_from 0 (count_in j)) ≡ none → (i : ℕ) → i < count_in j → name_in j i ≢ k
    missed e i lt =
        eqb-false (name_in j i) k (find-misses (λ i. eqb (name_in j i) k) 0 (count_in j) e i (omega arith) (omega arith))

    at : (h : holds d ≡ true) → (o : Option ℕ) → find (λ i. eqb (name_in j i) k) (up_from 0 (count_in j)) ≡ o
        → look_at o d k ≡ block (copies d.store (name_in j) (image_in j) (count_in j)) k
    at h (some i) e =
        let f = find-run (λ i. eqb (name_in j i) k) 0 (count_in j) i e in
        let q : name_in j i ≡ k = eqb-true (name_in j i) k f.passes in
        sym (block-copies (copying w h) (count_in j) i (omega arith) (omega (arith, f.upto)))
        ∙ ap (block (copies d.store (name_in j) (image_in j) (count_in j))) q
    at h none e =
        sym
        (block-copies-rest (copying w h) (count_in j) k (omega arith) (omega (arith, w.store))
        (missed e))

    go : (b : Bool) → holds d ≡ b → look_at (image_for b d.journal k) d k ≡ block (recover d).store k
    go true h = at h _ refl ∙ ap (λ (x : Disk). block x.store k) (sym (recover-yes d h))
    go false h = ap (λ (x : Disk). block x.store k) (sym (recover-no d h))
