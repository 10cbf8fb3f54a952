-- The store with every check written anew, and a change that is finished.
use Rattle.std.specs.Prelude.{◌≡◌, Bool, cond, List, ◌++◌, ℕ, zero, suc, ◌+◌, ◌*◌, ◌≤◌, ◌<◌, replicate}
use Rattle.std.proofs.Math.Path.{refl}
use Rattle.std.proofs.Common.{sym, ap, ap₂, ◌∙◌, arith, ltb-true, lt-ltb}
use Rattle.std.proofs.Math.Bool.{true, false}
use Rattle.std.proofs.Math.Dec.{ltb}
use Rattle.std.proofs.Math.ListN.{length, length-replicate}
use Rattle.lists.specs.Lists.{bind, up_from}
use Rattle.lists.specs.Bytes.{Bytes}
use Rattle.lists.specs.Block.{blocks, block}
use Rattle.lists.specs.BlockLaws.{length-block, length-bind, block-bind}
use Rattle.store.specs.declared.Change.{Change}
use Rattle.store.specs.Store.{sealed, number_at, checked}
use Rattle.store.specs.Change.{commits, seals}
use Rattle.store.proofs.CheckLaws.{length-sealed, block-checked}
use Rattle.store.proofs.ChangeLaws.{commits-zero}
use Rattle.store.specs.Finish.{finished_as, finished, resealed, Sealed}

-- ---- n images, one after the other

-- lists that agree on a run of numbers
pub bind-run : (f g : ℕ → List ℕ) (i n : ℕ) → ((k : ℕ) → i ≤ k → k < i + n → f k ≡ g k)
    → bind (up_from i n) f ≡ bind (up_from i n) g
bind-run f g i zero h = refl
bind-run f g i (suc n) h =
    ap₂ (λ (x y : List ℕ). x ++ y) (h i (omega arith) (omega arith))
    (bind-run f g (suc i) n (λ k l u. h k (omega arith) (omega arith)))

module _ (f : ℕ → List ℕ) (n : ℕ) (whole : (k : ℕ) → k < n → length (f k) ≡ 512) where
  -- f below n, and 512 zeros from there on
  filled : ℕ → List ℕ
  filled k = cond (ltb k n) (f k) (replicate 512 0)

  length-filled : (k : ℕ) → length (filled k) ≡ 512
  unfolding filled
  length-filled k = go (ltb k n) refl
    where
      go : (t : Bool) → ltb k n ≡ t → length (cond t (f k) (replicate 512 0)) ≡ 512
      go true e = whole k (ltb-true k n e)
      go false e = length-replicate {A = ℕ} 512 0

  is-filled : (k : ℕ) → k < n → f k ≡ filled k
  unfolding filled
  is-filled k h = rw (lt-ltb k n h)

  as-filled : bind (up_from 0 n) f ≡ bind (up_from 0 n) filled
  as-filled = bind-run f filled 0 n (λ k l h. is-filled k (omega arith))

  pub length-images : length (bind (up_from 0 n) f) ≡ 512 * n
  length-images = ap length as-filled ∙ length-bind filled length-filled 0 n

  pub block-images : (k : ℕ) → k < n → block (bind (up_from 0 n) f) k ≡ f k
  block-images k h =
      let z : 0 + k ≡ k = omega arith in
      ap (λ (x : List ℕ). block x k) as-filled
      ∙ block-bind filled length-filled 0 n k h
      ∙ ap filled z
      ∙ sym (is-filled k h)

-- ---- the store with every check written anew

module _ (number : ℕ) (d : List ℕ) (whole : length d ≡ 512 * blocks d) where
  full : (k : ℕ) → k < blocks d → length (sealed number k (block d k)) ≡ 512
  full k h = length-sealed number k (block d k) (omega (arith, length-block d k (omega arith)))

  pub length-resealed : length (resealed number d) ≡ 512 * blocks d
  unfolding resealed
  length-resealed = length-images (λ k. sealed number k (block d k)) (blocks d) full

  pub block-resealed : (k : ℕ) → k < blocks d → block (resealed number d) k ≡ sealed number k (block d k)
  unfolding resealed
  block-resealed k h = block-images (λ k. sealed number k (block d k)) (blocks d) full k h

-- ---- a change of no block

pub finished-none : (s : List ℕ) (c : Change) (images : List ℕ) → c.count ≡ 0 → finished s c images ≡ s
unfolding finished finished_as
finished-none s c images e =
    let made = seals (number_at s) c.numbers images c.count in
    ap (commits s c.numbers made) e ∙ commits-zero s c.numbers made

-- ---- a store of bytes whose checks are right
pub sealed-checked : (s : List ℕ) → Bytes s → length s ≡ 512 * blocks s
    → ((k : ℕ) → k < blocks s → checked s k ≡ true) → Sealed s
sealed-checked s bytes whole h k l = sym (block-checked s k bytes (omega arith) (h k l))
