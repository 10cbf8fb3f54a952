-- Recovery: what it leaves, that a cut inside it is mended by recovering again, and that recovering twice changes
-- nothing more.
use Rattle.std.specs.Prelude.{◌≡◌, refl, Bool, false, ℕ, ◌+◌, ◌/◌, length}
use Rattle.std.proofs.Common.{sym, ap₂, ◌∙◌, subst, arith}
use Rattle.std.proofs.Math.Path.{ap}
use Rattle.std.proofs.Math.Bool.{true}
use mathlib.Core.List.{List, [], ◌∷◌, ◌++◌}
use Rattle.lists.specs.Lists.{Each}
use Rattle.lists.specs.ListsLaws.{each_append}
use Rattle.lists.specs.Block.{blocks, block, set_block}
use Rattle.lists.specs.BlockLaws.{length-block, length-set_block, block_same}
use Rattle.endian.specs.Endian.{u32_at}
use Rattle.store.specs.Store.{checks}
use Rattle.store.specs.Change.{copies}
use Rattle.store.specs.CopyLaws.{Copying}
use Rattle.journal.specs.Journal.{Disk, page, run, head_of, count_in, name_in, image_in, wiped, wipe}
use Rattle.journal.specs.Journal.{holds, copy_stores, recovery_stores, recover}
use Rattle.journal.specs.Cut.{Cut, between, inside, later, Tries, ended, again, Whole, Ready}
use Rattle.journal.specs.CopyLaws.{
  Agree,
  agree_refl,
  agree-put,
  agree-copies,
  copies-again,
  run-append,
  run-pages,
  each-run,
  set_block-twice,
  set_block-same,
}
use Rattle.journal.specs.CutLaws.{Keeps, cut_keeps, Either, first, second, cut-append}
use Rattle.journal.specs.HeadLaws.{length-wiped}
use Rattle.journal.proofs.ValidLaws.{Held, holds-held, held-holds, wiped-fails, head-fails}

copied : Disk → List ℕ
copied d = copies d.store (name_in d.journal) (image_in d.journal) (count_in d.journal)

abbrev pub emptied : Disk → List ℕ
emptied d = set_block d.journal 0 wiped

-- ---- what it leaves

pub recover-no : (d : Disk) → holds d ≡ false → recover d ≡ record { store = d.store; journal = emptied d }
unfolding recover recovery_stores
recover-no d e = ap (λ (b : Bool). run (copy_stores b d ++ (wipe ∷ [])) d) e

copy_run : (d : Disk) → run (copy_stores true d) d ≡ record { store = copied d; journal = d.journal }
unfolding copies copied
copy_run d =
    run-pages d.store d.journal (name_in d.journal) (image_in d.journal) 0 (count_in d.journal)
    ∙ ap rec z
  where
    rec : ℕ → Disk
    rec n = record { store = copies d.store (name_in d.journal) (image_in d.journal) n; journal = d.journal }

    z : 0 + count_in d.journal ≡ count_in d.journal
    z = omega arith

pub recover-yes : (d : Disk) → holds d ≡ true
    → recover d
    ≡ record {
      store = copies d.store (name_in d.journal) (image_in d.journal) (count_in d.journal);
      journal = emptied d;
    }
unfolding recover recovery_stores copied
recover-yes d e =
    ap (λ (b : Bool). run (copy_stores b d ++ (wipe ∷ [])) d) e
    ∙ run-append (copy_stores true d) (wipe ∷ []) d
    ∙ ap (run (wipe ∷ [])) (copy_run d)

pub recover-journal : (d : Disk) → (recover d).journal ≡ emptied d
recover-journal d = go (holds d) refl
  where
    go : (b : Bool) → holds d ≡ b → (recover d).journal ≡ emptied d
    go true e = ap (λ (x : Disk). x.journal) (recover-yes d e)
    go false e = ap (λ (x : Disk). x.journal) (recover-no d e)

-- the journal is ready for the next change
pub recover-ready : (d : Disk) → length d.journal ≡ 8192 → Ready (recover d)
recover-ready d h =
    let w = length-wiped in
    record {
      sixteen = ap length (recover-journal d) ∙ length-set_block d.journal 0 wiped (omega arith) w ∙ h;
      clean = ap (λ (j : List ℕ). block j 0) (recover-journal d) ∙ block_same d.journal 0 wiped (omega arith) w;
    }

-- a store beside a wiped head stays as it is
pub recover-store : (d : Disk) → head_of d.journal ≡ wiped → (recover d).store ≡ d.store
recover-store d e = ap (λ (x : Disk). x.store) (recover-no d (wiped-fails d e))

-- and a journal that is ready too
pub recover-same : (d : Disk) → Ready d → recover d ≡ d
recover-same d r =
    recover-no d (wiped-fails d r.clean)
    ∙ ap rec
    (ap (set_block d.journal 0) (sym r.clean) ∙ set_block-same d.journal 0 (omega (arith, r.sixteen)))
  where
    rec : List ℕ → Disk
    rec j = record { store = d.store; journal = j }

-- "Recovering twice changes nothing more."
pub recover-twice : (d : Disk) → length d.journal ≡ 8192 → recover (recover d) ≡ recover d
recover-twice d h = recover-same (recover d) (recover-ready d h)

-- ---- the last store, of the wiped head

-- what a cut there may leave: all as it was, or a journal that holds nothing
pub data Ends (d e : Disk) : Type 0 where
  before : e ≡ d → Ends d e
  nothing : e.store ≡ d.store → holds e ≡ false → emptied e ≡ emptied d → length e.journal ≡ 8192 → Ends d e

ends_with : (d : Disk) (g : List ℕ) → length d.journal ≡ 8192 → length g ≡ 512
    → (head_of (set_block d.journal 0 g) ≡ g
    → holds (record { store = d.store; journal = set_block d.journal 0 g }) ≡ false)
    → Ends d (record { store = d.store; journal = set_block d.journal 0 g })
ends_with d g h w f =
    nothing refl (f (block_same d.journal 0 g (omega arith) w))
    (set_block-twice d.journal 0 (omega arith) g wiped w)
    (length-set_block d.journal 0 g (omega arith) w ∙ h)

pub cut-wipe : {n : ℕ} {d e : Disk} → length d.journal ≡ 8192 → Cut d (wipe ∷ []) n e → Ends d e
cut-wipe h between = before refl
cut-wipe {d = d} h (inside {g = g} t) =
    ends_with d g h t.whole
    (λ e. head-fails _ (ap (λ (l : List ℕ). checks (u32_at l 0) 0 l) e ∙ t.fails))
cut-wipe {d = d} h (later between) = ends_with d wiped h (length-wiped) (λ e. wiped-fails _ e)

-- a journal that holds nothing leaves the store alone
pub nothing-recovers : (d e : Disk) → e.store ≡ d.store → holds e ≡ false → emptied e ≡ emptied d
    → recover e ≡ record { store = d.store; journal = emptied d }
nothing-recovers d e s h j = recover-no e h ∙ ap₂ rec s j
  where
    rec : List ℕ → List ℕ → Disk
    rec x y = record { store = x; journal = y }

-- ---- a change that the journal holds, over a store that has some of its blocks in place

pub record Pending (d e : Disk) : Type 0 where
  pub journal : e.journal ≡ d.journal
  pub store : Agree d.store (name_in d.journal) (count_in d.journal) e.store

module _ {m : ℕ} {d : Disk} (w : Whole m d) (h : holds d ≡ true) where
  held : Held d
  held = holds-held d h

  pub copying : Copying d.store (name_in d.journal) (image_in d.journal) (count_in d.journal)
  unfolding blocks
  copying =
      let f = held.few in
      let ws = w.store in
      let wj = w.journal in
      record {
        inside = λ i l. omega (arith, held.below i l);
        whole = λ i l. length-block d.journal (1 + i) (omega arith);
        apart = held.differ;
      }

  -- it still holds it
  pending-holds : {e : Disk} → Pending d e → holds e ≡ true
  unfolding blocks
  pending-holds {e} p =
      held-holds e
      (subst (λ (j : List ℕ). Held (record { store = e.store; journal = j })) (sym p.journal)
      (record {
        some = held.some;
        few = held.few;
        head = held.head;
        end = held.end;
        copy = held.copy;
        images = held.images;
        below = λ i l. omega (arith, held.below i l, ap (λ (n : ℕ). n / 512) p.store.same);
        differ = held.differ;
      }))

  pub pending-recovers : {e : Disk} → Pending d e → recover e ≡ recover d
  pending-recovers {e} p =
      recover-yes e (pending-holds p)
      ∙ ap (λ (j : List ℕ). rec (copies e.store (name_in j) (image_in j) (count_in j)) (set_block j 0 wiped))
      p.journal
      ∙ ap (λ (s : List ℕ). rec s (emptied d)) (copies-again copying m w.store p.store)
      ∙ sym (recover-yes d h)
    where
      rec : List ℕ → List ℕ → Disk
      rec x y = record { store = x; journal = y }

  pending-keeps : Each (Keeps (Pending d)) (copy_stores true d)
  pending-keeps =
      each-run (Keeps (Pending d)) (λ i. page (name_in d.journal i) (image_in d.journal i)) 0 (count_in d.journal)
      (λ i a b.
      record {
        whole = copying.whole i (omega arith);
        kept = λ g wg f p. record { journal = p.journal; store = agree-put copying p.store i (omega arith) g wg };
      })

  -- a cut while the images are copied, or while the head is wiped after that
  copy-cut : {n : ℕ} {e : Disk} → Cut d (copy_stores true d ++ (wipe ∷ [])) n e → recover e ≡ recover d
  unfolding copied
  copy-cut {n} {e} c = go (cut-append (copy_stores true d) (wipe ∷ []) c)
    where
      start : Pending d d
      start = record { journal = refl; store = agree_refl d.store (name_in d.journal) (count_in d.journal) }

      full : Disk
      full = record { store = copied d; journal = d.journal }

      done : Pending d full
      done = record { journal = refl; store = agree-copies copying (count_in d.journal) (omega arith) }

      last : Ends full e → recover e ≡ recover d
      last (before q) = ap recover q ∙ pending-recovers done
      last (nothing s f j l) = nothing-recovers full e s f j ∙ sym (recover-yes d h)

      go : Either d (copy_stores true d) (wipe ∷ []) n e → recover e ≡ recover d
      go (first l c) = pending-recovers (cut_keeps (Pending d) (copy_stores true d) pending-keeps start c)
      go (second k q c) =
          last (cut-wipe w.journal (subst (λ (x : Disk). Cut x (wipe ∷ []) k e) (copy_run d) c))

-- "a cut inside it is mended by recovering again"
pub mend : {m n : ℕ} {d e : Disk} → Whole m d → Cut d (recovery_stores d) n e → recover e ≡ recover d
unfolding recovery_stores
mend {m} {n} {d} {e} w c = go (holds d) refl c
  where
    last : holds d ≡ false → Ends d e → recover e ≡ recover d
    last f (before q) = ap recover q
    last f (nothing s g j l) = nothing-recovers d e s g j ∙ sym (recover-no d f)

    go : (b : Bool) → holds d ≡ b → Cut d (copy_stores b d ++ (wipe ∷ [])) n e → recover e ≡ recover d
    go true h c = copy-cut w h c
    go false h c = last h (cut-wipe w.journal c)

-- ---- recoveries that were cut, any number of them

pub whole-stores : {m : ℕ} {d : Disk} → Whole m d → Each (Keeps (Whole m)) (recovery_stores d)
unfolding recovery_stores
whole-stores {m} {d} w = go (holds d) refl
  where
    wiping : Keeps (Whole m) (wipe)
    wiping =
        record {
          whole = length-wiped;
          kept = λ g wg f q.
              record {
                store = q.store;
                journal = length-set_block f.journal 0 g (omega (arith, q.journal)) wg ∙ q.journal;
              };
        }

    copied-keep : (h : holds d ≡ true) → Each (Keeps (Whole m)) (copy_stores true d)
    copied-keep h =
        each-run (Keeps (Whole m)) (λ i. page (name_in d.journal i) (image_in d.journal i)) 0 (count_in d.journal)
        (λ i a b.
        let ws = w.store in
        let inn = (copying w h).inside i (omega arith) in
        record {
          whole = (copying w h).whole i (omega arith);
          kept = λ g wg f q.
              record {
                store = length-set_block f.store (name_in d.journal i) g (omega (arith, q.store)) wg ∙ q.store;
                journal = q.journal;
              };
        })

    go : (b : Bool) → holds d ≡ b → Each (Keeps (Whole m)) (copy_stores b d ++ (wipe ∷ []))
    go true h = each_append (Keeps (Whole m)) (copy_stores true d) (wipe ∷ []) (copied-keep h) (wiping, tt)
    go false h = (wiping, tt)

pub mends : {m : ℕ} {d f : Disk} → Whole m d → Tries d f → recover f ≡ recover d
mends w ended = refl
mends {m} {d} w (again c t) = mends (cut_keeps (Whole m) (recovery_stores d) (whole-stores w) w c) t ∙ mend w c
