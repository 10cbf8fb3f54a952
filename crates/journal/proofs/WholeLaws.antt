-- A change leaves store and journal their lengths wherever it is cut; run whole, it leaves the store after it and a
-- journal that is ready.
use Rattle.std.specs.Prelude.{◌≡◌, refl, ℕ, ◌+◌, ◌<◌, get_or}
use Rattle.std.proofs.Common.{sym, ◌∙◌, arith}
use Rattle.std.proofs.Math.Path.{ap, subst}
use mathlib.Core.List.{List, [], ◌∷◌, ◌++◌}
use Rattle.std.proofs.Math.ListN.{length}
use Rattle.lists.specs.Lists.{Each}
use Rattle.lists.specs.ListsLaws.{each_append}
use Rattle.lists.specs.Block.{block, set_block}
use Rattle.lists.specs.BlockLaws.{length-set_block, block_same}
use Rattle.store.specs.Change.{commits}
use Rattle.journal.specs.Journal.{Disk, BlockStore, image, mark, page, bytes_of, write, run}
use Rattle.journal.specs.Journal.{head, ending, wiped, wipe, image_stores, page_stores, stores}
use Rattle.journal.specs.Cut.{Cut, Whole, Ready}
use Rattle.journal.specs.CopyLaws.{run-append, each-run}
use Rattle.journal.specs.CutLaws.{Keeps, cut_keeps}
use Rattle.journal.specs.HeadLaws.{length-wiped, length-head, length-ending}
use Rattle.journal.proofs.StageLaws.{
  Changes,
  with_head,
  with_end,
  copying-images,
  copying-pages,
  length-filled,
  images-run,
}
use Rattle.journal.proofs.CrashLaws.{pages-run}

module _ {d : Disk} {m number : ℕ} {numbers images : List ℕ} {n : ℕ} (r : Ready d)
    (c : Changes d m number numbers images n) where
  abbrev disk : List ℕ → List ℕ → Disk
  disk x y = record { store = x; journal = y }

  abbrev filled : List ℕ
  filled = with_end d.journal number numbers images n

  abbrev tail : List BlockStore
  tail = page_stores numbers images 0 n ++ (wipe ∷ [])

  -- ---- store and journal keep their lengths

  whole-keeps : Each (Keeps (Whole m)) (stores number numbers images n)
  unfolding stores
  whole-keeps =
      each_append (Keeps (Whole m)) (image_stores images 0 n)
      (mark 0 (head number numbers n) ∷ mark 15 (ending number numbers n) ∷ tail)
      (each-run (Keeps (Whole m)) (λ j. image (1 + j) (block images j)) 0 n
      (λ j x y.
      on-journal (image (1 + j) (block images j)) (1 + j) ((copying-images r c).whole j (omega arith))
      (omega (arith, c.few)) (λ g f. refl))) (
        on-journal (mark 0 (head number numbers n)) 0 (length-head number numbers n) (omega arith) (λ g f. refl),
        (
          on-journal (mark 15 (ending number numbers n)) 15 (length-ending number numbers n) (omega arith)
              (λ g f. refl),
          each_append (Keeps (Whole m)) (page_stores numbers images 0 n) (wipe ∷ [])
              (each-run (Keeps (Whole m)) (λ j. page (get_or numbers j 0) (block images j)) 0 n
              (λ j x y.
              record {
                whole = (copying-pages r c).whole j (omega arith);
                kept = λ g w f q.
                    record {
                      store =
                          length-set_block f.store (get_or numbers j 0) g
                          (omega (arith, q.store, c.size, c.inside j (omega arith))) w
                          ∙ q.store;
                      journal = q.journal;
                    };
              }))
              (on-journal wipe 0 (length-wiped) (omega arith) (λ g f. refl), tt),
        ),
      )
    where
      on-journal : (p : BlockStore) (i : ℕ) → length (bytes_of p) ≡ 512 → i < 16
          → ((g : List ℕ) (f : Disk) → write p g f ≡ disk f.store (set_block f.journal i g))
          → Keeps (Whole m) p
      on-journal p i l h e =
          record {
            whole = l;
            kept = λ g w f q.
                subst (Whole m) (sym (e g f))
                (record {
                  store = q.store;
                  journal = length-set_block f.journal i g (omega (arith, q.journal)) w ∙ q.journal;
                });
          }

  pub cut-whole : {k : ℕ} {e : Disk} → Cut d (stores number numbers images n) k e → Whole m e
  cut-whole q =
      cut_keeps (Whole m) (stores number numbers images n) whole-keeps
      (record { store = c.size; journal = r.sixteen }) q

  -- ---- the change run whole

  run-whole : run (stores number numbers images n) d
      ≡ disk (commits d.store numbers images n) (set_block filled 0 wiped)
  unfolding stores with_head with_end
  run-whole =
      run-append (image_stores images 0 n) (mark 0 (head number numbers n) ∷ mark 15 (ending number numbers n) ∷ tail) d
      ∙ ap (run (mark 0 (head number numbers n) ∷ mark 15 (ending number numbers n) ∷ tail)) (images-run r c)
      ∙ run-append (page_stores numbers images 0 n) (wipe ∷ []) (disk d.store filled)
      ∙ ap (run (wipe ∷ [])) (pages-run r c)

  pub run_store_lem : (run (stores number numbers images n) d).store ≡ commits d.store numbers images n
  run_store_lem = ap (λ (x : Disk). x.store) run-whole

  pub run-ready : Ready (run (stores number numbers images n) d)
  run-ready =
      let l = length-filled r c in
      let w = length-wiped in
      record {
        sixteen = ap (λ (x : Disk). length x.journal) run-whole ∙ length-set_block filled 0 wiped (omega arith) w ∙ l;
        clean = ap (λ (x : Disk). block x.journal 0) run-whole ∙ block_same filled 0 wiped (omega arith) w;
      }
