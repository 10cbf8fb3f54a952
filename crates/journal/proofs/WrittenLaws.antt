-- A change run whole makes the store what it is to become, whatever the journal holds.
use Rattle.std.specs.Prelude.{◌≡◌, refl, List, [], ◌∷◌, ◌++◌, ℕ, zero, suc, ◌+◌, ◌*◌, ◌≤◌, length, get_or}
use Rattle.std.proofs.Common.{sym, ap, ◌∙◌, zero-add, arith}
use Rattle.std.proofs.Math.Decide.{ℕ_discrete}
use Rattle.lists.specs.Block.{block}
use Rattle.store.specs.Store.{number_at}
use Rattle.store.specs.Change.{commits, copies}
use Rattle.store.specs.CopyLaws.{copies-zero}
use Rattle.journal.specs.Journal.{Disk, disk, BlockStore, image, mark, do_store, run, head, ending, wipe}
use Rattle.journal.specs.Journal.{image_stores, page_stores, stores}
use Rattle.journal.specs.Altered.{altered, images_of, stores_to, written}
use Rattle.journal.specs.CopyLaws.{run-append, run-pages}
use Rattle.journal.proofs.AlteredLaws.{commits-to, altered-none, stores_to-none, stores_to-some}

-- images leave the store
images-leave : (images : List ℕ) (i n : ℕ) (d : Disk) → (run (image_stores images i n) d).store ≡ d.store
images-leave images i zero d = refl
images-leave images i (suc n) d = images-leave images (suc i) n (do_store (image (1 + i) (block images i)) d)

-- blocks of the store put there one after the other, and the head wiped
pages-make : (numbers images : List ℕ) (n : ℕ) (d : Disk)
    → (run (page_stores numbers images 0 n ++ (wipe ∷ [])) d).store ≡ commits d.store numbers images n
unfolding commits
pages-make numbers images n d =
    ap (λ (e : Disk). e.store) (run-append (page_stores numbers images 0 n) (wipe ∷ []) d)
    ∙ ap (λ (s : List ℕ). (run (page_stores numbers images 0 n) (disk s d.journal)).store)
    (sym (copies-zero d.store (λ j. get_or numbers j 0) (block images)))
    ∙ ap (λ (e : Disk). e.store) (run-pages d.store d.journal (λ j. get_or numbers j 0) (block images) 0 n)
    ∙ ap (copies d.store (λ j. get_or numbers j 0) (block images)) (zero-add n)

run-makes : (number : ℕ) (numbers images : List ℕ) (n : ℕ) (d : Disk)
    → (run (stores number numbers images n) d).store ≡ commits d.store numbers images n
unfolding stores
run-makes number numbers images n d =
    let marks = mark 0 (head number numbers n) ∷ mark 15 (ending number numbers n) ∷ [] in
    let e = run (image_stores images 0 n) d in
    ap (λ (e : Disk). e.store)
    (run-append (image_stores images 0 n)
    (mark 0 (head number numbers n)
    ∷ mark 15 (ending number numbers n)
    ∷ (page_stores numbers images 0 n ++ (wipe ∷ []))) d)
    ∙ pages-make numbers images n (run marks e)
    ∙ ap (λ (s : List ℕ). commits s numbers images n) (images-leave images 0 n d)

pub written-makes : (d : Disk) (t : List ℕ) (m : ℕ) → length d.store ≡ 512 * m → length t ≡ 512 * m
    → (written d t).store ≡ t
unfolding written
written-makes d t m ls lt = go (ℕ_discrete n 0)
  where
    n : ℕ
    n = length (altered d.store t)

    go : Dec (n ≡ 0) → (run (stores_to (number_at d.store) d.store t) d).store ≡ t
    go (yes e) =
        ap (λ (ps : List BlockStore). (run ps d).store) (stores_to-none (number_at d.store) d.store t e)
        ∙ altered-none d.store t m ls lt e
    go (no f) =
        let some : 1 ≤ n = omega arith in
        ap (λ (ps : List BlockStore). (run ps d).store) (stores_to-some (number_at d.store) d.store t some)
        ∙ run-makes (number_at d.store) (altered d.store t) (images_of d.store t) n d
        ∙ commits-to d.store t m ls lt
