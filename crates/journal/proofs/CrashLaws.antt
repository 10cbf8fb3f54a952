-- A change that is cut anywhere, and recovered.
use Rattle.std.specs.Prelude.{◌≡◌, refl, ◌⊎◌, false, ℕ, ◌+◌, ◌≤◌, ◌<◌, length, get_or}
use Rattle.std.proofs.Common.{sym, ◌∙◌, subst, inl}
use Rattle.std.proofs.Math.Path.{ap}
use Rattle.std.proofs.Math.Logic.{inr}
use mathlib.Core.List.{List, [], ◌∷◌, ◌++◌}
use native.Mathlib.Omega.{arith}
use Rattle.std.proofs.lemmas.List.{length-map}
use Rattle.lists.specs.Lists.{up_from, Each}
use Rattle.lists.specs.RunLaws.{length_run}
use Rattle.lists.specs.Block.{block, set_block}
use Rattle.lists.specs.BlockLaws.{length-set_block, block_same, block-other}
use Rattle.endian.specs.Endian.{u32_at}
use Rattle.store.specs.Store.{checks}
use Rattle.store.specs.Change.{copies, commits}
use Rattle.journal.specs.Journal.{Disk, BlockStore, image, mark, page, run, head_of, end_of}
use Rattle.journal.specs.Journal.{head, ending, wiped, wipe, image_stores, page_stores, stores, recover}
use Rattle.journal.specs.Cut.{Cut, between, inside, later, Ready}
use Rattle.journal.specs.CopyLaws.{Agree, agree_refl, agree-put, agree-copies, run-pages, each-run}
use Rattle.journal.specs.CutLaws.{Keeps, cut_keeps, Either, first, second, cut-append}
use Rattle.journal.proofs.ValidLaws.{head-fails, end-fails}
use Rattle.journal.proofs.RecoverLaws.{
  recover-no,
  recover-store,
  Ends,
  before,
  nothing,
  cut-wipe,
  nothing-recovers,
  Pending,
  pending-recovers,
}
use Rattle.journal.proofs.StageLaws.{
  Changes,
  with_images,
  with_head,
  with_end,
  copying-images,
  copying-pages,
  length-imaged,
  length-headed,
  length-filled,
  images-run,
  head-imaged,
  head-headed,
  image-headed,
  head-filled,
  image-filled,
  cnt,
  nam,
  recover-after,
  recover-either,
  holds-filled,
  whole-filled,
}

module _ {d : Disk} {m number : ℕ} {numbers images : List ℕ} {n : ℕ} (r : Ready d)
    (c : Changes d m number numbers images n) where
  abbrev at : ℕ → ℕ
  at j = get_or numbers j 0

  abbrev b : ℕ → List ℕ
  b = block images

  abbrev s : List ℕ
  s = d.store

  abbrev after : List ℕ
  after = commits s numbers images n

  abbrev disk : List ℕ → List ℕ → Disk
  disk x y = record { store = x; journal = y }

  abbrev imaged : List ℕ
  imaged = with_images d.journal images n

  abbrev headed : List ℕ
  headed = with_head d.journal number numbers images n

  abbrev filled : List ℕ
  filled = with_end d.journal number numbers images n

  -- ---- from the end block on

  abbrev Done : Disk → Type 0
  Done e = (recover e).store ≡ after

  pending_done : {e : Disk} → Pending (disk s filled) e → Done e
  pending_done p =
      ap (λ (x : Disk). x.store) (pending-recovers (whole-filled r c) (holds-filled r c) p)
      ∙ recover-after r c filled (head-filled r c) (image-filled r c) (holds-filled r c)

  -- the store has this change's blocks in place, or torn ones there
  pending-of : (t : List ℕ) → Agree s at n t → Pending (disk s filled) (disk t filled)
  pending-of t a =
      record {
        journal = refl;
        store = record {
          same = a.same;
          rest = λ k fits free.
              a.rest k fits
              (λ j h q.
              free j (omega (arith, cnt r c filled (head-filled r c) (image-filled r c)))
              (nam r c filled (head-filled r c) (image-filled r c) j h ∙ q));
        };
      }

  record Under (e : Disk) : Type 0 where
    journal : e.journal ≡ filled
    store : Agree s at n e.store

  under-done : (e : Disk) → Under e → Done e
  under-done e u =
      subst (λ (j : List ℕ). Done (disk e.store j)) (sym u.journal)
      (pending_done (pending-of e.store u.store))

  pages-keep : Each (Keeps Under) (page_stores numbers images 0 n)
  pages-keep =
      each-run (Keeps Under) (λ j. page (get_or numbers j 0) (block images j)) 0 n
      (λ j x y.
      record {
        whole = (copying-pages r c).whole j (omega arith);
        kept = λ g w f u.
            record { journal = u.journal; store = agree-put (copying-pages r c) u.store j (omega arith) g w };
      })

  pub pages-run : run (page_stores numbers images 0 n) (disk s filled) ≡ disk after filled
  unfolding commits copies
  pages-run = run-pages s filled at b 0 n ∙ ap (λ (k : ℕ). disk (copies s at b k) filled) z
    where
      z : 0 + n ≡ n
      z = omega arith

  under-after : Under (disk after filled)
  unfolding commits
  under-after = record { journal = refl; store = agree-copies (copying-pages r c) n (omega arith) }

  late : {k : ℕ} {e : Disk} → Cut (disk s filled) (page_stores numbers images 0 n ++ (wipe ∷ [])) k e → Done e
  late {k} {e} q = go (cut-append (page_stores numbers images 0 n) (wipe ∷ []) q)
    where
      last : Ends (disk after filled) e → Done e
      last (before p) = ap (λ (x : Disk). (recover x).store) p ∙ under-done (disk after filled) under-after
      last (nothing p f j l) = ap (λ (x : Disk). x.store) (nothing-recovers (disk after filled) e p f j)

      go : Either (disk s filled) (page_stores numbers images 0 n) (wipe ∷ []) k e → Done e
      go (first l q) =
          under-done e
          (cut_keeps Under (page_stores numbers images 0 n) pages-keep
          (record { journal = refl; store = agree_refl s at n }) q)
      go (second i p q) = last (cut-wipe (length-filled r c) (subst (λ (x : Disk). Cut x (wipe ∷ []) i e) pages-run q))

  -- ---- before the head

  record Quiet (e : Disk) : Type 0 where
    store : e.store ≡ s
    sixteen : length e.journal ≡ 8192
    clean : head_of e.journal ≡ wiped

  quiet-recovers : (e : Disk) → Quiet e → (recover e).store ≡ s
  quiet-recovers e q = recover-store e q.clean ∙ q.store

  images-keep : Each (Keeps Quiet) (image_stores images 0 n)
  images-keep =
      each-run (Keeps Quiet) (λ j. image (1 + j) (block images j)) 0 n
      (λ j x y.
      let few = c.few in
      record {
        whole = (copying-images r c).whole j (omega arith);
        kept = λ g w f q.
            let l = q.sixteen in
            record {
              store = q.store;
              sixteen = length-set_block f.journal (1 + j) g (omega arith) w ∙ l;
              clean = block-other f.journal (1 + j) g (omega arith) w 0 (omega arith) (λ p. omega arith) ∙ q.clean;
            };
      })

  quiet-imaged : Quiet (disk s imaged)
  quiet-imaged = record { store = refl; sixteen = length-imaged r c; clean = head-imaged r c }

  torn-head : (g : List ℕ) → length g ≡ 512 → checks (u32_at g 0) 0 g ≡ false
      → (recover (disk s (set_block imaged 0 g))).store ≡ s
  torn-head g w f =
      let e : head_of (set_block imaged 0 g) ≡ g = block_same imaged 0 g (omega (arith, length-imaged r c)) w in
      ap (λ (x : Disk). x.store)
      (recover-no (disk s (set_block imaged 0 g))
      (head-fails (disk s (set_block imaged 0 g)) (ap (λ (l : List ℕ). checks (u32_at l 0) 0 l) e ∙ f)))

  torn-end : (g : List ℕ) → length g ≡ 512 → checks (u32_at g 0) 15 g ≡ false
      → (recover (disk s (set_block headed 15 g))).store ≡ s
  torn-end g w f =
      let e : end_of (set_block headed 15 g) ≡ g = block_same headed 15 g (omega (arith, length-headed r c)) w in
      ap (λ (x : Disk). x.store)
      (recover-no (disk s (set_block headed 15 g))
      (end-fails (disk s (set_block headed 15 g)) (ap (λ (l : List ℕ). checks (u32_at l 0) 15 l) e ∙ f)))

  -- ---- any cut: the store before or the one after, and the one after from the end block on

  record Answer (k : ℕ) (e : Disk) : Type 0 where
    either : ((recover e).store ≡ s) ⊎ ((recover e).store ≡ after)
    late : n + 2 ≤ k → (recover e).store ≡ after

  abbrev tail : List BlockStore
  tail = page_stores numbers images 0 n ++ (wipe ∷ [])

  length-images : length (image_stores images 0 n) ≡ n
  length-images = length-map (up_from 0 n) (λ j. image (1 + j) (block images j)) ∙ length_run 0 n

  early : {k : ℕ} {e : Disk} → k < n + 2 → (recover e).store ≡ s → Answer k e
  early h q = record { either = inl q; late = λ l. absurd (omega arith) }

  marks : {k i : ℕ} {e : Disk} → k ≡ n + i
      → Cut (disk s imaged) (mark 0 (head number numbers n) ∷ mark 15 (ending number numbers n) ∷ tail) i e → Answer k e
  unfolding with_head with_end
  marks p between = early (omega arith) (quiet-recovers (disk s imaged) quiet-imaged)
  marks p (inside {g = g} t) = early (omega arith) (torn-head g t.whole t.fails)
  marks p (later between) =
      record {
        either = recover-either r c headed (head-headed r c) (image-headed r c);
        late = λ l. absurd (omega arith);
      }
  marks p (later (inside {g = g} t)) = early (omega arith) (torn-end g t.whole t.fails)
  marks p (later (later q)) = record { either = inr (late q); late = λ l. late q }

  answer : {k : ℕ} {e : Disk} → Cut d (stores number numbers images n) k e → Answer k e
  unfolding stores
  answer {k} {e} q = go (cut-append (image_stores images 0 n) rest q)
    where
      rest : List BlockStore
      rest = mark 0 (head number numbers n) ∷ mark 15 (ending number numbers n) ∷ tail

      go : Either d (image_stores images 0 n) rest k e → Answer k e
      go (first l q) =
          early (omega (arith, length-images))
          (quiet-recovers e
          (cut_keeps Quiet (image_stores images 0 n) images-keep
          (record { store = refl; sixteen = r.sixteen; clean = r.clean }) q))
      go (second i p q) =
          marks (omega (arith, length-images)) (subst (λ (x : Disk). Cut x rest i e) (images-run r c) q)

  pub cut-either : {k : ℕ} {e : Disk} → Cut d (stores number numbers images n) k e
      → ((recover e).store ≡ d.store) ⊎ ((recover e).store ≡ commits d.store numbers images n)
  cut-either q = (answer q).either

  pub cut-late : {k : ℕ} {e : Disk} → Cut d (stores number numbers images n) k e → n + 2 ≤ k
      → (recover e).store ≡ commits d.store numbers images n
  cut-late q l = (answer q).late l
