-- Blocks copied into a store again, over one that has some of them, or torn ones, in place; and runs of block stores.
use Rattle.std.proofs.Math.Path.{◌≡◌, ap, ap₂}
use Rattle.std.specs.Prelude.{refl, ◌≢◌, Bool, true, false}
use Rattle.std.proofs.Common.{sym, ◌∙◌, take_at, drop-drop}
use mathlib.Core.List.{List, [], ◌∷◌, ◌++◌, map}
use Rattle.std.proofs.Math.Option.{Option, none, some}
use Prim.Native.Nat.{ℕ, zero, suc, ◌+◌, ◌*◌, ◌≤◌, ◌<◌}
use Rattle.std.proofs.Math.Decide.{ℕ_discrete}
use native.Mathlib.Omega.{arith}
use Rattle.std.proofs.Math.ListN.{length, take, drop, take-append-drop}
use Rattle.std.proofs.Math.Seq.{drop-append-add, length-take-le}
use Rattle.lists.specs.Lists.{find, up_from, Each}
use Rattle.lists.specs.Block.{block, set_block}
use Rattle.lists.specs.BlockLaws.{length-set_block, block-other}
use Rattle.store.specs.Change.{copies}
use Rattle.store.specs.CopyLaws.{Copying, length-copies, block-copies, block-copies-rest, copies-ext}
use Rattle.journal.specs.Journal.{Disk, BlockStore, image, page, do_store, run}

-- t is as long as s and has its blocks, but for those at the n numbers
pub record Agree (s : List ℕ) (at : ℕ → ℕ) (n : ℕ) (t : List ℕ) : Type 0 where
  pub same : length t ≡ length s
  pub rest : (k : ℕ) → 512 * k + 512 ≤ length s → ((j : ℕ) → j < n → at j ≢ k) → block t k ≡ block s k

copying-cong : {s : List ℕ} {at : ℕ → ℕ} {b : ℕ → List ℕ} {n : ℕ} (t : List ℕ) → length t ≡ length s
    → Copying s at b n → Copying t at b n
copying-cong t e c = record { inside = λ j h. omega (arith, c.inside j h); whole = c.whole; apart = c.apart }

pub copies-cong : (s : List ℕ) (at at' : ℕ → ℕ) (b b' : ℕ → List ℕ) (n : ℕ)
    → ((j : ℕ) → j < n → at j ≡ at' j) → ((j : ℕ) → j < n → b j ≡ b' j)
    → copies s at b n ≡ copies s at' b' n
unfolding copies
copies-cong s at at' b b' zero p q = refl
copies-cong s at at' b b' (suc n) p q =
    let ih = copies-cong s at at' b b' n (λ j h. p j (omega arith)) (λ j h. q j (omega arith)) in
    let x = p n (omega arith) in
    let y = q n (omega arith) in
    cc

-- ---- copying again

pub agree_refl : (s : List ℕ) (at : ℕ → ℕ) (n : ℕ) → Agree s at n s
agree_refl s at n = record { same = refl; rest = λ k h f. refl }

module _ {s : List ℕ} {at : ℕ → ℕ} {b : ℕ → List ℕ} {n : ℕ} (c : Copying s at b n) where
  -- any whole block put at one of the numbers, torn or not
  pub agree-put : {t : List ℕ} → Agree s at n t → (j : ℕ) → j < n → (g : List ℕ) → length g ≡ 512
      → Agree s at n (set_block t (at j) g)
  agree-put {t} a j h g w =
      let i = c.inside j h in
      let l = a.same in
      record {
        same = length-set_block t (at j) g (omega arith) w ∙ l;
        rest = λ k fits free.
            block-other t (at j) g (omega arith) w k (omega arith) (λ e. free j h (sym e)) ∙ a.rest k fits free;
      }

  pub agree-copies : (m : ℕ) → m ≤ n → Agree s at n (copies s at b m)
  agree-copies m h =
      record {
        same = length-copies c m h;
        rest = λ k fits free. block-copies-rest c m k h fits (λ j lt. free j (omega arith));
      }

  -- copying over it gives the same store
  pub copies-again : (m : ℕ) → length s ≡ 512 * m → {t : List ℕ} → Agree s at n t → copies t at b n ≡ copies s at b n
  copies-again m e {t} a =
      let over = copying-cong t a.same c in
      let lt = a.same in
      copies-ext c m (copies t at b n) e (length-copies over n (omega arith) ∙ lt ∙ e)
      (λ j h. block-copies over n j (omega arith) h)
      (λ k h free.
      block-copies-rest over n k (omega arith) (omega arith) free ∙ a.rest k (omega arith) free)

-- ---- runs of block stores

pub run-append : (ps qs : List BlockStore) (d : Disk) → run (ps ++ qs) d ≡ run qs (run ps d)
run-append [] qs d = refl
run-append (p ∷ ps) qs d = run-append ps qs (do_store p d)

-- the blocks i up to i + n put into the store
pub run-pages : (s j : List ℕ) (at : ℕ → ℕ) (b : ℕ → List ℕ) (i n : ℕ)
    → run (map (λ k. page (at k) (b k)) (up_from i n)) (record { store = copies s at b i; journal = j })
    ≡ record { store = copies s at b (i + n); journal = j }
unfolding copies
run-pages s j at b i zero = ap rec z
  where
    rec : ℕ → Disk
    rec m = record { store = copies s at b m; journal = j }

    z : i ≡ i + 0
    z = omega arith
run-pages s j at b i (suc n) =
    ap (run (map (λ k. page (at k) (b k)) (up_from (suc i) n))) once ∙ run-pages s j at b (suc i) n ∙ ap rec z
  where
    rec : ℕ → Disk
    rec m = record { store = copies s at b m; journal = j }

    z : suc i + n ≡ i + suc n
    z = omega arith

    once : ◌≡◌ {A = Disk} (record { store = set_block (copies s at b i) (at i) (b i); journal = j }) (rec (suc i))
    once = refl

-- and into the journal from block 1 on
pub run-images : (s j : List ℕ) (b : ℕ → List ℕ) (i n : ℕ)
    → run (map (λ k. image (1 + k) (b k)) (up_from i n)) (record { store = s; journal = copies j (λ k. 1 + k) b i })
    ≡ record { store = s; journal = copies j (λ k. 1 + k) b (i + n) }
unfolding copies
run-images s j b i zero = ap rec z
  where
    rec : ℕ → Disk
    rec m = record { store = s; journal = copies j (λ k. 1 + k) b m }

    z : i ≡ i + 0
    z = omega arith
run-images s j b i (suc n) = run-images s j b (suc i) n ∙ ap rec z
  where
    rec : ℕ → Disk
    rec m = record { store = s; journal = copies j (λ k. 1 + k) b m }

    z : suc i + n ≡ i + suc n
    z = omega arith

-- a property of every store of such a run
pub each-run : {A : Type 0} (P : A → Type 0) (f : ℕ → A) (i n : ℕ) → ((j : ℕ) → i ≤ j → j < i + n → P (f j))
    → Each P (map f (up_from i n))
each-run P f i zero h = tt
each-run P f i (suc n) h =
    (h i (omega arith) (omega arith), each-run P f (suc i) n (λ j a b. h j (omega arith) (omega arith)))

module _ (s : List ℕ) (k : ℕ) (inside : 512 * k + 512 ≤ length s) where
  -- the last that is put into a block stays
  pub set_block-twice : (a b : List ℕ) → length a ≡ 512 → set_block (set_block s k a) k b ≡ set_block s k b
  unfolding set_block
  set_block-twice a b full =
      let front : List ℕ = take (512 * k) s in
      let end : List ℕ = drop (512 * k + 512) s in
      let lf : length front ≡ 512 * k = length-take-le (512 * k) s (omega arith) in
      let n : 512 * k + 512 ≡ length front + 512 = omega arith in
      let m : ◌≡◌ {A = ℕ} 512 (length a + 0) = omega arith in
      ap₂ (λ (x y : List ℕ). x ++ (b ++ y)) (take_at front (a ++ end) (512 * k) lf)
      (ap (λ (i : ℕ). drop i (front ++ (a ++ end))) n
      ∙ drop-append-add front (a ++ end) 512
      ∙ ap (λ (i : ℕ). drop i (a ++ end)) m
      ∙ drop-append-add a end 0)

  -- a block is put back
  pub set_block-same : set_block s k (block s k) ≡ s
  unfolding set_block block
  set_block-same =
      ap (λ (x : List ℕ). take (512 * k) s ++ (take 512 (drop (512 * k) s) ++ x)) (sym (drop-drop 512 (512 * k) s))
      ∙ ap (λ (x : List ℕ). take (512 * k) s ++ x) (take-append-drop 512 (drop (512 * k) s))
      ∙ take-append-drop (512 * k) s

-- where nothing is found every number of the run fails
pub find-misses : (t : ℕ → Bool) (i n : ℕ) → find t (up_from i n) ≡ none → (k : ℕ) → i ≤ k → k < i + n → t k ≡ false
find-misses t i zero h k l g = absurd (omega arith)
find-misses t i (suc n) h k l g = go (t i) refl h (find-misses t (suc i) n)
  where
    here : Dec (i ≡ k) → t i ≡ false → ((k : ℕ) → suc i ≤ k → k < suc i + n → t k ≡ false) → t k ≡ false
    here (yes e) q f = ap t (sym e) ∙ q
    here (no e) q f = f k (omega arith) (omega arith)

    go : (b : Bool) → t i ≡ b → Path (Option ℕ) (elim b [ true ↦ some i | false ↦ find t (up_from (suc i) n) ]) none
        → (find t (up_from (suc i) n) ≡ none → (k : ℕ) → suc i ≤ k → k < suc i + n → t k ≡ false) → t k ≡ false
    go true e h f = let z : ◌≡◌ {A = ℕ} 0 1 = cc in absurd (omega arith)
    go false e h f = here (ℕ_discrete i k) e (f h)

-- the first number of the run that passes
pub find_first : (t : ℕ → Bool) (s n i : ℕ) → s ≤ i → i < s + n → ((k : ℕ) → s ≤ k → k < i → t k ≡ false) → t i ≡ true
    → find t (up_from s n) ≡ some i
find_first t s zero i a b f e = absurd (omega arith)
find_first t s (suc n) i a b f e = go (ℕ_discrete s i) (find_first t (suc s) n i)
  where
    go : Dec (s ≡ i)
        → (suc s ≤ i → i < suc s + n → ((k : ℕ) → suc s ≤ k → k < i → t k ≡ false) → t i ≡ true
        → find t (up_from (suc s) n) ≡ some i)
        → Path (Option ℕ) (elim (t s) [ true ↦ some s | false ↦ find t (up_from (suc s) n) ]) (some i)
    go (yes q) ih = rw (ap t q ∙ e) (ap some q)
    go (no q) ih =
        rw (f s (omega arith) (omega arith)) (ih (omega arith) (omega arith) (λ k l m. f k (omega arith) m) e)
