-- The blocks that a change from s to t alters, their images, and the change they make.
use Rattle.std.proofs.Math.Path.{◌≡◌, sym, ap}
use Rattle.std.specs.Prelude.{refl, ◌≢◌, Bool, true, false, cond, List, [], ◌∷◌, ◌++◌, map, ℕ, zero, suc, ◌+◌, ◌*◌, ◌≤◌, ◌<◌, length}
use Rattle.std.proofs.Common.{◌∙◌, length-append}
use Rattle.std.proofs.Math.Bool.{not}
use Rattle.std.proofs.Math.Decide.{ℕ_discrete}
use native.Mathlib.Omega.{arith}
use Rattle.std.proofs.lemmas.Bool.{not-false}
use Rattle.std.proofs.Math.ListN.{get_or}
use Rattle.std.proofs.lemmas.List.{length-map}
use Rattle.lists.specs.Lists.{keep, bind, up_from}
use Rattle.lists.specs.RunLaws.{length_run}
use Rattle.lists.specs.Block.{blocks, block}
use Rattle.lists.specs.BlockLaws.{length-block}
use Rattle.store.specs.Store.{number_at}
use Rattle.store.specs.Change.{commits}
use Rattle.store.specs.CopyLaws.{Copying, copies-ext}
use Rattle.store.proofs.ChangeLaws.{commits-zero}
use Rattle.journal.specs.Journal.{Disk, BlockStore, image, mark, page, equal, run}
use Rattle.journal.specs.Journal.{head, ending, wipe, image_stores, page_stores, stores}
use Rattle.journal.specs.Altered.{altered, images_of, stores_in, stores_to, written}
use Rattle.journal.specs.PartLaws.{block-first, block-next}
use Rattle.journal.proofs.ValidLaws.{equal-eq, equal-yes}

-- ---- the numbers of a run that pass a test

module _ (t : ℕ → Bool) where
  record Kept (i n : ℕ) (ks : List ℕ) : Type 0 where
    passes : (j : ℕ) → j < length ks → t (get_or ks j 0) ≡ true
    from : (j : ℕ) → j < length ks → i ≤ get_or ks j 0
    upto : (j : ℕ) → j < length ks → get_or ks j 0 < i + n
    ascending : (j k : ℕ) → j < k → k < length ks → get_or ks j 0 < get_or ks k 0
    missed : (k : ℕ) → i ≤ k → k < i + n → ((j : ℕ) → j < length ks → get_or ks j 0 ≢ k) → t k ≡ false

  add : (i n : ℕ) (ks : List ℕ) (b : Bool) → t i ≡ b → Kept (suc i) n ks → Kept i (suc n) (cond b (i ∷ ks) ks)
  add i n ks true e h =
      record {
        passes = λ j l. passes j l;
        from = λ j l. from j l;
        upto = λ j l. upto j l;
        ascending = λ j k l m. ascending j k l m;
        missed = λ k a b f. missed k a b f (ℕ_discrete k i);
      }
    where
      passes : (j : ℕ) → j < length (i ∷ ks) → t (get_or (i ∷ ks) j 0) ≡ true
      passes zero l = e
      passes (suc j) l = h.passes j (omega arith)

      from : (j : ℕ) → j < length (i ∷ ks) → i ≤ get_or (i ∷ ks) j 0
      from zero l = omega arith
      from (suc j) l = omega (arith, h.from j (omega arith))

      upto : (j : ℕ) → j < length (i ∷ ks) → get_or (i ∷ ks) j 0 < i + suc n
      upto zero l = omega arith
      upto (suc j) l = omega (arith, h.upto j (omega arith))

      ascending : (j k : ℕ) → j < k → k < length (i ∷ ks) → get_or (i ∷ ks) j 0 < get_or (i ∷ ks) k 0
      ascending j zero l m = absurd (omega arith)
      ascending zero (suc k) l m = omega (arith, h.from k (omega arith))
      ascending (suc j) (suc k) l m = h.ascending j k (omega arith) (omega arith)

      missed : (k : ℕ) → i ≤ k → k < i + suc n → ((j : ℕ) → j < length (i ∷ ks) → get_or (i ∷ ks) j 0 ≢ k)
          → Dec (k ≡ i) → t k ≡ false
      missed k a b f (yes q) = absurd (f 0 (omega arith) (sym q))
      missed k a b f (no q) = h.missed k (omega arith) (omega arith) (λ j l. f (suc j) (omega arith))
  add i n ks false e h =
      record {
        passes = h.passes;
        from = λ j l. omega (arith, h.from j l);
        upto = λ j l. omega (arith, h.upto j l);
        ascending = h.ascending;
        missed = λ k a b f. missed k a b f (ℕ_discrete k i);
      }
    where
      missed : (k : ℕ) → i ≤ k → k < i + suc n → ((j : ℕ) → j < length ks → get_or ks j 0 ≢ k) → Dec (k ≡ i) → t k ≡ false
      missed k a b f (yes q) = ap t q ∙ e
      missed k a b f (no q) = h.missed k (omega arith) (omega arith) f

  kept : (i n : ℕ) → Kept i n (keep t (up_from i n))
  kept i zero =
      record {
        passes = λ j l. absurd (omega arith);
        from = λ j l. absurd (omega arith);
        upto = λ j l. absurd (omega arith);
        ascending = λ j k l m. absurd (omega arith);
        missed = λ k a b f. absurd (omega arith);
      }
  kept i (suc n) = add i n (keep t (up_from (suc i) n)) (t i) refl (kept (suc i) n)

-- ---- images one after the other

module _ (f : ℕ → List ℕ) where
  length-images : (ks : List ℕ) → ((j : ℕ) → j < length ks → length (f (get_or ks j 0)) ≡ 512)
      → length (bind ks f) ≡ 512 * length ks
  length-images [] h = refl
  length-images (k ∷ ks) h =
      length-append (f k) (bind ks f)
      ∙ omega (arith, h 0 (omega arith), length-images ks (λ j l. h (suc j) (omega arith)))

  block-images : (ks : List ℕ) → ((j : ℕ) → j < length ks → length (f (get_or ks j 0)) ≡ 512)
      → (j : ℕ) → j < length ks → block (bind ks f) j ≡ f (get_or ks j 0)
  block-images [] h j l = absurd (omega arith)
  block-images (k ∷ ks) h zero l = block-first (f k) (bind ks f) (h 0 (omega arith))
  block-images (k ∷ ks) h (suc j) l =
      block-next (f k) (bind ks f) (h 0 (omega arith)) j
      ∙ block-images ks (λ j l. h (suc j) (omega arith)) j (omega arith)

-- ---- from s to t

module _ (s t : List ℕ) (m : ℕ) (ls : length s ≡ 512 * m) (lt : length t ≡ 512 * m) where
  abbrev ks : List ℕ
  ks = altered s t

  abbrev n : ℕ
  n = length (altered s t)

  differs : ℕ → Bool
  differs k = not (equal (block s k) (block t k))

  passed : Kept differs 0 (blocks s) ks
  unfolding altered differs
  passed = kept differs 0 (blocks s)

  pub altered-below : (j : ℕ) → j < n → get_or ks j 0 < m
  unfolding blocks
  altered-below j l = omega (arith, passed.upto j l)

  pub altered-ascending : (i j : ℕ) → i < j → j < n → get_or ks i 0 < get_or ks j 0
  altered-ascending = passed.ascending

  pub altered-differs : (j : ℕ) → j < n → block s (get_or ks j 0) ≢ block t (get_or ks j 0)
  unfolding differs
  altered-differs j h e =
      let k = get_or ks j 0 in
      let y = passed.passes j h in
      let z = ap not (equal-yes (block s k) (block t k) e) in
      let q : ◌≡◌ {A = ℕ} 0 1 = cc in
      omega arith

  -- the others are the same in both
  pub altered-missed : (k : ℕ) → k < m → ((j : ℕ) → j < n → get_or ks j 0 ≢ k) → block s k ≡ block t k
  unfolding differs blocks
  altered-missed k h f =
      equal-eq (block s k) (block t k) (not-false _ (passed.missed k (omega arith) (omega arith) f))

  long : (j : ℕ) → j < n → length (block t (get_or ks j 0)) ≡ 512
  long j l = length-block t (get_or ks j 0) (omega (arith, altered-below j l))

  pub length-images_of : length (images_of s t) ≡ 512 * n
  unfolding images_of
  length-images_of = length-images (block t) ks long

  pub block-images_of : (j : ℕ) → j < n → block (images_of s t) j ≡ block t (get_or ks j 0)
  unfolding images_of
  block-images_of j l = block-images (block t) ks long j l

  copying-to : Copying s (λ j. get_or ks j 0) (block (images_of s t)) n
  copying-to =
      record {
        inside = λ j l. omega (arith, altered-below j l);
        whole = λ j l. ap length (block-images_of j l) ∙ long j l;
        apart = λ i j l h e. omega (arith, altered-ascending i j l h);
      }

  -- the change makes t
  pub commits-to : commits s ks (images_of s t) n ≡ t
  unfolding commits
  commits-to =
      sym
      (copies-ext copying-to m t ls lt (λ j l. sym (block-images_of j l))
      (λ k h free. sym (altered-missed k h free)))

  -- a change that alters nothing
  pub altered-none : n ≡ 0 → s ≡ t
  altered-none e = sym (commits-zero s ks (images_of s t)) ∙ ap (commits s ks (images_of s t)) (sym e) ∙ commits-to

-- ---- the block stores

keep-none : (t : ℕ → Bool) (xs : List ℕ) → ((x : ℕ) → t x ≡ false) → keep t xs ≡ []
keep-none t [] h = refl
keep-none t (x ∷ xs) h = rw (h x) (keep-none t xs h)

pub altered-same : (s : List ℕ) → altered s s ≡ []
unfolding altered
altered-same s =
    keep-none (λ k. not (equal (block s k) (block s k))) (up_from 0 (blocks s))
    (λ k. ap not (equal-yes (block s k) (block s k) refl))

pub stores_to-none : (number : ℕ) (s t : List ℕ) → length (altered s t) ≡ 0 → stores_to number s t ≡ []
unfolding stores_to
stores_to-none number s t e = ap (λ (n : ℕ). stores_in n number s t) e

pub stores_to-some : (number : ℕ) (s t : List ℕ) → 1 ≤ length (altered s t)
    → stores_to number s t ≡ stores number (altered s t) (images_of s t) (length (altered s t))
unfolding stores_to
stores_to-some number s t h = go (length (altered s t)) h
  where
    go : (n : ℕ) → 1 ≤ n → stores_in n number s t ≡ stores number (altered s t) (images_of s t) n
    go zero h = absurd (omega arith)
    go (suc n) h = refl

-- n images, head, end, n blocks of the store, and the head wiped
length-stores : (number : ℕ) (ks images : List ℕ) (n : ℕ) → length (stores number ks images n) ≡ 2 * n + 3
unfolding stores
length-stores number ks images n =
    length-append (image_stores images 0 n)
    (mark 0 (head number ks n) ∷ mark 15 (ending number ks n) ∷ (page_stores ks images 0 n ++ (wipe ∷ [])))
    ∙ omega (
      arith,
      length-each (λ j. image (1 + j) (block images j)),
      length-each (λ j. page (get_or ks j 0) (block images j)),
      length-append (page_stores ks images 0 n) (wipe ∷ []),
    )
  where
    length-each : (f : ℕ → BlockStore) → length (map f (up_from 0 n)) ≡ n
    length-each f = length-map (up_from 0 n) f ∙ length_run 0 n

pub length-stores_to : (number : ℕ) (s t : List ℕ) → 1 ≤ length (altered s t)
    → length (stores_to number s t) ≡ 2 * length (altered s t) + 3
length-stores_to number s t h =
    ap length (stores_to-some number s t h)
    ∙ length-stores number (altered s t) (images_of s t) (length (altered s t))

pub written_same : (d : Disk) → written d d.store ≡ d
unfolding written
written_same d =
    ap (λ (ps : List BlockStore). run ps d)
    (stores_to-none (number_at d.store) d.store d.store (ap length (altered-same d.store)))
