-- A plan's block stores: how many they are, the n-th of them, and the first n.
use Rattle.std.specs.Prelude.{◌≡◌, List, [], ◌∷◌, ◌++◌, map, ℕ, suc, ◌+◌, ◌*◌, ◌<◌, length, get_or, take}
use Rattle.std.proofs.Common.{sym, ap, ◌∙◌, arith, add-one, length-append, get_or-append-add, take-suc}
use Rattle.std.proofs.lemmas.List.{length-map}
use Rattle.std.proofs.Math.ListN.{get_or-append}
use Rattle.lists.specs.Lists.{up_from}
use Rattle.lists.specs.RunLaws.{length_run, get_or-run}
use Rattle.lists.specs.Block.{block, set_block}
use Rattle.journal.specs.Journal.{Disk, BlockStore, image, mark, page, do_store, run, wipe}
use Rattle.journal.specs.Planned.{plan_count, plan_name, plan_image, plan_stores, plan_store}
use Rattle.journal.specs.CopyLaws.{run-append}

-- one store more
pub run-suc : (ps : List BlockStore) (p : BlockStore) (n : ℕ) (d : Disk) → n < length ps
    → run (take (n + 1) ps) d ≡ do_store (get_or ps n p) (run (take n ps) d)
run-suc ps p n d h =
    ap (λ (k : ℕ). run (take k ps) d) (add-one n)
    ∙ ap (λ (qs : List BlockStore). run qs d) (take-suc ps n p h)
    ∙ run-append (take n ps) (get_or ps n p ∷ []) d

-- ---- n things, two, n others, and one

abbrev in_order : {A : Type 0} → (f g : ℕ → A) → (a b c : A) → (n : ℕ) → List A
in_order f g a b c n = map f (up_from 0 n) ++ (a ∷ b ∷ (map g (up_from 0 n) ++ (c ∷ [])))

module _ {A : Type 0} (f g : ℕ → A) (a b c d : A) (n : ℕ) where
  length-of : (h : ℕ → A) → length (map h (up_from 0 n)) ≡ n
  length-of h = length-map (up_from 0 n) h ∙ length_run 0 n

  length-in_order : length (in_order f g a b c n) ≡ 2 * n + 3
  length-in_order =
      length-append (map f (up_from 0 n)) (a ∷ b ∷ (map g (up_from 0 n) ++ (c ∷ [])))
      ∙ omega (arith, length-of f, length-append (map g (up_from 0 n)) (c ∷ []), length-of g)

  nth-front : (i : ℕ) → i < n → get_or (in_order f g a b c n) i d ≡ f i
  nth-front i h =
      let z : 0 + i ≡ i = omega arith in
      get_or-append (map f (up_from 0 n)) _ d i (omega (arith, length-of f))
      ∙ get_or-run f d 0 n i h
      ∙ ap f z

  -- the k-th after the first n
  past : (k : ℕ) → get_or (in_order f g a b c n) (n + k) d ≡ get_or (a ∷ b ∷ (map g (up_from 0 n) ++ (c ∷ []))) k d
  past k =
      ap (λ (i : ℕ). get_or (in_order f g a b c n) (i + k) d) (sym (length-of f))
      ∙ get_or-append-add (map f (up_from 0 n)) (a ∷ b ∷ (map g (up_from 0 n) ++ (c ∷ []))) k d

  nth-first : (i : ℕ) → i ≡ n → get_or (in_order f g a b c n) i d ≡ a
  nth-first i h = let z : i ≡ n + 0 = omega arith in ap (λ (k : ℕ). get_or (in_order f g a b c n) k d) z ∙ past 0

  nth-next : (i : ℕ) → i ≡ n + 1 → get_or (in_order f g a b c n) i d ≡ b
  nth-next i h = ap (λ (k : ℕ). get_or (in_order f g a b c n) k d) h ∙ past 1

  later : (i k : ℕ) → i ≡ n + (2 + k)
      → get_or (in_order f g a b c n) i d ≡ get_or (map g (up_from 0 n) ++ (c ∷ [])) k d
  later i k h =
      ap (λ (x : ℕ). get_or (in_order f g a b c n) x d) h
      ∙ past (2 + k)
      ∙ ap (λ (x : ℕ). get_or (a ∷ b ∷ (map g (up_from 0 n) ++ (c ∷ []))) x d) z
    where
      z : 2 + k ≡ suc (suc k)
      z = omega arith

  nth-back : (i k : ℕ) → i ≡ n + (2 + k) → k < n → get_or (in_order f g a b c n) i d ≡ g k
  nth-back i k e h =
      let z : 0 + k ≡ k = omega arith in
      later i k e
      ∙ get_or-append (map g (up_from 0 n)) (c ∷ []) d k (omega (arith, length-of g))
      ∙ get_or-run g d 0 n k h
      ∙ ap g z

  nth_last : (i : ℕ) → i ≡ n + (2 + n) → get_or (in_order f g a b c n) i d ≡ c
  nth_last i e =
      later i n e
      ∙ ap (λ (x : ℕ). get_or (map g (up_from 0 n) ++ (c ∷ [])) x d) z
      ∙ get_or-append-add (map g (up_from 0 n)) (c ∷ []) 0 d
    where
      z : n ≡ length (map g (up_from 0 n)) + 0
      z = omega (arith, length-of g)

-- ---- a plan's

module _ (p : List ℕ) where
  -- an image, a block of the store; the head, the end and the wiped head
  abbrev image_at : ℕ → BlockStore
  image_at i = image (1 + i) (plan_image p i)

  abbrev page_at : ℕ → BlockStore
  page_at i = page (plan_name p i) (plan_image p i)

  abbrev first : BlockStore
  first = mark 0 (block p 0)

  abbrev next : BlockStore
  next = mark 15 (block p 1)

  abbrev last : BlockStore
  last = mark 0 (block p 2)

  pub length-plan_stores : length (plan_stores p) ≡ 2 * plan_count p + 3
  unfolding plan_stores
  length-plan_stores =
      length-in_order image_at page_at first next last wipe (plan_count p)

  -- ---- the i-th of them

  pub nth-image : (i : ℕ) → i < plan_count p → plan_store p i ≡ image (1 + i) (plan_image p i)
  unfolding plan_stores plan_store
  nth-image i h = nth-front image_at page_at first next last wipe (plan_count p) i h

  pub nth-head : (i : ℕ) → i ≡ plan_count p → plan_store p i ≡ mark 0 (block p 0)
  unfolding plan_stores plan_store
  nth-head i h = nth-first image_at page_at first next last wipe (plan_count p) i h

  pub nth_end : (i : ℕ) → i ≡ plan_count p + 1 → plan_store p i ≡ mark 15 (block p 1)
  unfolding plan_stores plan_store
  nth_end i h = nth-next image_at page_at first next last wipe (plan_count p) i h

  pub nth-page : (i l : ℕ) → i ≡ plan_count p + (2 + l) → l < plan_count p
      → plan_store p i ≡ page (plan_name p l) (plan_image p l)
  unfolding plan_stores plan_store
  nth-page i l e h = nth-back image_at page_at first next last wipe (plan_count p) i l e h

  pub nth-wipe : (i : ℕ) → i ≡ plan_count p + (2 + plan_count p) → plan_store p i ≡ mark 0 (block p 2)
  unfolding plan_stores plan_store
  nth-wipe i e = nth_last image_at page_at first next last wipe (plan_count p) i e

  -- The i-th of them done to a store s and a journal j; b are the bytes that were written.
  module _ (s j b t : List ℕ) where
    abbrev disk : List ℕ → List ℕ → Disk
    disk x y = record { store = x; journal = y }

    to-journal : (at : ℕ) (q : BlockStore) (i : ℕ) → plan_store p i ≡ q → do_store q (disk s j) ≡ disk s (set_block j at b)
        → t ≡ set_block j at b → do_store (plan_store p i) (disk s j) ≡ disk s t
    to-journal at q i e f g =
        ap (λ (q : BlockStore). do_store q (disk s j)) e ∙ f ∙ ap (λ (x : List ℕ). disk s x) (sym g)

    pub did-image : (i : ℕ) → i < plan_count p → b ≡ plan_image p i → t ≡ set_block j (1 + i) b
        → do_store (plan_store p i) (disk s j) ≡ disk s t
    did-image i h e g =
        to-journal (1 + i) (image_at i) i
        (nth-image i h)
        (ap (λ (x : List ℕ). disk s (set_block j (1 + i) x)) (sym e)) g

    pub did-head : (i : ℕ) → i ≡ plan_count p → b ≡ block p 0 → t ≡ set_block j 0 b
        → do_store (plan_store p i) (disk s j) ≡ disk s t
    did-head i h e g =
        to-journal 0 first i
        (nth-head i h)
        (ap (λ (x : List ℕ). disk s (set_block j 0 x)) (sym e)) g

    pub did-end : (i : ℕ) → i ≡ plan_count p + 1 → b ≡ block p 1 → t ≡ set_block j 15 b
        → do_store (plan_store p i) (disk s j) ≡ disk s t
    did-end i h e g =
        to-journal 15 next i
        (nth_end i h)
        (ap (λ (x : List ℕ). disk s (set_block j 15 x)) (sym e)) g

    pub did-wipe : (i : ℕ) → i ≡ plan_count p + (2 + plan_count p) → b ≡ block p 2 → t ≡ set_block j 0 b
        → do_store (plan_store p i) (disk s j) ≡ disk s t
    did-wipe i h e g =
        to-journal 0 last i
        (nth-wipe i h)
        (ap (λ (x : List ℕ). disk s (set_block j 0 x)) (sym e)) g

    -- of a block of the store, named k
    pub did-page : (i l k : ℕ) → i ≡ plan_count p + (2 + l) → l < plan_count p → k ≡ plan_name p l → b ≡ plan_image p l
        → t ≡ set_block s k b → do_store (plan_store p i) (disk s j) ≡ disk t j
    did-page i l k h lt n e g =
        ap (λ (q : BlockStore). do_store q (disk s j))
        (nth-page i l h lt)
        ∙ ap (λ (x : List ℕ). disk (set_block s (plan_name p l) x) j) (sym e)
        ∙ ap (λ (x : ℕ). disk (set_block s x b) j) (sym n)
        ∙ ap (λ (x : List ℕ). disk x j) (sym g)
