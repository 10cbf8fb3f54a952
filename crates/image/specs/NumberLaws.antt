-- The store number: where it is read, and blocks that stand in another store or at another place than they were sealed
-- for. Such a block passes exactly if the check that it has is also the one that it should have there. After block 0 it
-- never is where the store number alone is another one, or the place alone. A right block 0 of another store is right
-- here too, and the blocks after it are not.
use Rattle.std.specs.Prelude.{◌≡◌, refl, ◌≢◌, Bool, length}
use Rattle.std.proofs.Common.{sym, ◌∙◌}
use Rattle.std.proofs.Math.Path.{ap, ap₂}
use Rattle.std.proofs.Math.Bool.{true, false, cond, not}
use mathlib.Core.List.{List}
use Rattle.std.proofs.Math.Option.{Option, none, some}
use Prim.Native.Nat.{ℕ, suc, ◌+◌, ◌-◌, ◌*◌, ◌/◌, ◌^◌, ◌≤◌, ◌<◌}
use native.Mathlib.Omega.{arith}
use Rattle.std.proofs.Math.Decide.{ℕ_discrete}
use Rattle.std.proofs.Math.Dec.{eqb}
use Rattle.lists.specs.Lists.{find, up_from}
use Rattle.lists.specs.ListsLaws.{eqb_no}
use Rattle.lists.specs.RunLaws.{find-only, find-nowhere}
use Rattle.lists.specs.Bytes.{Bytes}
use Rattle.lists.specs.Block.{blocks, block, set_block}
use Rattle.lists.specs.BlockLaws.{length-block, length-set_block, block_same, block-other, Bytes-block}
use Rattle.endian.specs.Endian.{u32_at}
use Rattle.endian.proofs.EndianLaws.{u32_at-lt}
use Rattle.store.specs.Store.{check_of, checks, number_at, checked}
use Rattle.store.proofs.CheckLaws.{checks-elsewhere}
use Rattle.store.specs.InjectiveLaws.{check_of-number-inj, check_of-place-inj}
use Rattle.image.specs.Decode.{read_meta, decode}
use Rattle.image.specs.Rules.{damaged, judge, lowest_damaged, verdict}

-- the number under which checks are tested is the index's, of 32 bits
pub number-decode : (s : List ℕ) → number_at s ≡ (decode s).number
unfolding number_at decode read_meta
number-decode s = refl

number_lt : (s : List ℕ) → Bytes s → number_at s < 2 ^ 32
unfolding number_at
number_lt s bytes = u32_at-lt (block s 0) (Bytes-block s 0 bytes) 104

inside : (t : List ℕ) (i : ℕ) → i < blocks t → 512 * i + 512 ≤ length t
unfolding blocks
inside t i h = omega arith

blocks-put : (t : List ℕ) (j : ℕ) (b : List ℕ) → 512 * j + 512 ≤ length t → length b ≡ 512
    → blocks (set_block t j b) ≡ blocks t
unfolding blocks
blocks-put t j b here full = ap (λ (n : ℕ). n / 512) (length-set_block t j b here full)

-- ---- block k of the store s, which is right there, put at place j of the store t

module _ (s t : List ℕ) (k j : ℕ) (there : 512 * k + 512 ≤ length s) (here : 512 * j + 512 ≤ length t)
    (right : checked s k ≡ true) where
  abbrev moved : List ℕ
  moved = set_block t j (block s k)

  abbrev had : ℕ
  had = check_of (number_at s) k (block s k)

  full : length (block s k) ≡ 512
  full = length-block s k there

  pub misplaced-checked : let u = set_block t j (block s k) in
      checked u j ≡ eqb (check_of (number_at s) k (block s k)) (check_of (number_at u) j (block s k))
  unfolding checked
  misplaced-checked =
      ap (checks (number_at moved) j) (block_same t j (block s k) here full)
      ∙ checks-elsewhere (number_at s) k (number_at moved) j (block s k) right

  -- after the first block: the store's number stays, and so do the other checks
  module _ (after : 1 ≤ j) (others : (i : ℕ) → i < blocks t → i ≢ j → checked t i ≡ true) where
    number-stays : number_at (set_block t j (block s k)) ≡ number_at t
    unfolding number_at
    number-stays =
        ap (λ (l : List ℕ). u32_at l 104) (block-other t j (block s k) here full 0 (omega arith) (λ e. omega arith))

    others-stay : (i : ℕ) → i < blocks t → i ≢ j → not (checked (set_block t j (block s k)) i) ≡ false
    unfolding checked
    others-stay i h ne =
        ap not
        (ap₂ (λ (n : ℕ) (l : List ℕ). checks n i l) number-stays
        (block-other t j (block s k) here full i (inside t i h) ne)
        ∙ others i h ne)

    -- the block is the one that 3 gives, or none is
    pub misplaced-lowest : lowest_damaged (set_block t j (block s k))
        ≡ cond (eqb (check_of (number_at s) k (block s k)) (check_of (number_at t) j (block s k))) none (some j)
    unfolding lowest_damaged blocks
    misplaced-lowest =
        ap (λ (n : ℕ). find (λ i. not (checked moved i)) (up_from 0 n)) (blocks-put t j (block s k) here full)
        ∙ go (eqb had (check_of (number_at t) j (block s k)))
        (misplaced-checked ∙ ap (λ (n : ℕ). eqb had (check_of n j (block s k))) number-stays)
      where
        go : (b : Bool) → checked moved j ≡ b
            → find (λ i. not (checked moved i)) (up_from 0 (blocks t)) ≡ cond b none (some j)
        go false e =
            find-only (λ i. not (checked moved i)) 0 (blocks t) j (ap not e) (omega arith) (omega arith)
            (λ i l h ne. others-stay i (omega arith) ne)
        go true e = find-nowhere (λ i. not (checked moved i)) 0 (blocks t)
            (λ i l h. at i (omega arith) (ℕ_discrete i j))
          where
            at : (i : ℕ) → i < blocks t → Dec (i ≡ j) → not (checked moved i) ≡ false
            at i h (yes q) = ap (λ (m : ℕ). not (checked moved m)) q ∙ ap not e
            at i h (no ne) = others-stay i h ne

    pub misplaced-refused : check_of (number_at s) k (block s k) ≢ check_of (number_at t) j (block s k)
        → verdict (set_block t j (block s k)) ≡ damaged j
    unfolding verdict
    misplaced-refused ne = rw (misplaced-lowest, eqb_no _ _ ne)

-- ---- where the store number alone is another one, or the place alone

module _ (s t : List ℕ) (bytes : Bytes s) (others-bytes : Bytes t) (j : ℕ) (here : 512 * j + 512 ≤ length t)
    (after : 1 ≤ j) (others : (i : ℕ) → i < blocks t → i ≢ j → checked t i ≡ true) where
  -- block j of a store with another number, at the same place
  pub other-store-refused : 512 * j + 512 ≤ length s → checked s j ≡ true → number_at s ≢ number_at t
      → verdict (set_block t j (block s j)) ≡ damaged j
  other-store-refused there right ne =
      misplaced-refused s t j j there here right after others
      (λ e.
      ne (check_of-number-inj (number_at s) (number_at t) j (block s j) (Bytes-block s j bytes) (number_lt s bytes)
      (number_lt t others-bytes) e))

  -- block k of a store with the same number (it may be this one) at another place
  pub other-place-refused : (k : ℕ) → 512 * k + 512 ≤ length s → k < 2 ^ 32 → j < 2 ^ 32 → checked s k ≡ true
      → number_at s ≡ number_at t → k ≢ j → verdict (set_block t j (block s k)) ≡ damaged j
  other-place-refused k there hk hj right same ne =
      misplaced-refused s t k j there here right after others
      (λ e.
      ne (check_of-place-inj (number_at s) k j (block s k) (Bytes-block s k bytes) hk hj
      (e ∙ ap (λ (n : ℕ). check_of n j (block s k)) (sym same))))

-- ---- the meta block of the store s, put into the store t

module _ (s t : List ℕ) (there : 512 ≤ length s) (here : 512 ≤ length t) where
  full-meta : length (block s 0) ≡ 512
  full-meta = length-block s 0 (omega arith)

  number-comes : number_at (set_block t 0 (block s 0)) ≡ number_at s
  unfolding number_at
  number-comes = ap (λ (l : List ℕ). u32_at l 104) (block_same t 0 (block s 0) (omega arith) full-meta)

  -- it is right by itself
  pub foreign-meta : checked s 0 ≡ true → checked (set_block t 0 (block s 0)) 0 ≡ true
  unfolding checked
  foreign-meta right =
      ap₂ (λ (n : ℕ) (l : List ℕ). checks n 0 l) number-comes
      (block_same t 0 (block s 0) (omega arith) full-meta)
      ∙ right

  -- each other block passes exactly if its check is also the one under the number that came
  pub foreign-rest : (k : ℕ) → 1 ≤ k → 512 * k + 512 ≤ length t → checked t k ≡ true
      → checked (set_block t 0 (block s 0)) k
      ≡ eqb (check_of (number_at t) k (block t k)) (check_of (number_at s) k (block t k))
  unfolding checked
  foreign-rest k h i right =
      ap₂ (λ (n : ℕ) (l : List ℕ). checks n k l) number-comes
      (block-other t 0 (block s 0) (omega arith) full-meta k i (λ e. omega arith))
      ∙ checks-elsewhere (number_at t) k (number_at s) k (block t k) right

  -- with another number every block that was right is wrong
  pub foreign-wrong : Bytes s → Bytes t → number_at s ≢ number_at t → (k : ℕ) → 1 ≤ k → 512 * k + 512 ≤ length t
      → checked t k ≡ true → checked (set_block t 0 (block s 0)) k ≡ false
  foreign-wrong bs bt ne k after i right =
      foreign-rest k after i right
      ∙ eqb_no _ _
      (λ e.
      ne (sym (check_of-number-inj (number_at t) (number_at s) k (block t k) (Bytes-block t k bt) (number_lt t bt)
      (number_lt s bs) e)))

  -- and 3 gives block 1
  pub foreign-refused : Bytes s → Bytes t → number_at s ≢ number_at t → 2 ≤ blocks t → checked s 0 ≡ true
      → checked t 1 ≡ true → verdict (set_block t 0 (block s 0)) ≡ damaged 1
  unfolding verdict lowest_damaged
  foreign-refused bs bt ne two right next = rw (found, judge)
    where
      two-more : blocks t ≡ suc (suc (blocks t - 2))
      two-more = omega arith

      first : (a b : Bool) → Option ℕ
      first a b =
          elim (not a) [
            | true ↦ some 0
            | false ↦ elim (not b) [
              | true ↦ some 1
              | false ↦ find (λ i. not (checked (set_block t 0 (block s 0)) i)) (up_from 2 (blocks t - 2))
            ]
          ]

      found : lowest_damaged (set_block t 0 (block s 0)) ≡ some 1
      found =
          ap (λ (n : ℕ). find (λ i. not (checked (set_block t 0 (block s 0)) i)) (up_from 0 n))
          (blocks-put t 0 (block s 0) (omega arith) full-meta ∙ two-more)
          ∙ ap₂ (λ (a b : Bool). first a b) (foreign-meta right)
          (foreign-wrong bs bt ne 1 (omega arith) (inside t 1 (omega arith)) next)
