-- Old stores, of at most 128 blocks: length, rule 2 and begin by the addresses of before request 2026-09
-- (crates/address/specs/Before.antt). Rule 2 settles which addresses a store is read by; begin, and what is said of its
-- room, also ask for those of one bucket more. Other definitions take them from AsBefore's five. The sentences are
-- document 01's own.
use Rattle.std.specs.Prelude.{◌≡◌, Bool, true, false, ◌&&◌, List, [], ◌∷◌, ◌++◌, ℕ, suc, ◌+◌, ◌%◌, ◌^◌, leb, ltb, eqb, length, get_or}
use Rattle.std.proofs.Math.Option.{Option, none, some}
use Rattle.lists.specs.Block.{blocks}
use Rattle.address.specs.Address.{buckets_at, high_mask, low_mask, point}
use Rattle.address.specs.Before.{point_before, made_before, AsBefore}
use Rattle.model.specs.Index.{Index}
use Rattle.model.specs.Steps.{widen, begin}
use Rattle.model.specs.Calls.{fill_ok}
use Rattle.image.specs.declared.Meta.{Meta}
use Rattle.image.specs.Decode.{meta_at, max_at, spares_at}
use Rattle.image.specs.Rules.{length_ok, spares_ok, rule2}

-- document 01's largest N
abbrev pub old_blocks : ℕ
old_blocks = 128

-- "store not a multiple of 512 bytes, or N outside 4..128"
unfoldable pub length_before : List ℕ → Bool
length_before s = eqb (length s % 512) 0 && (leb 4 (blocks s) && leb (blocks s) old_blocks)

-- (2) "fill, max bucket at least 1, masks, s, .. made blocks at most N"
unfoldable pub meta_before : (size : ℕ) → Meta → Bool
meta_before n m =
    fill_ok m.fill
    && (leb 1 m.max && (eqb m.high (high_mask m.max) && (eqb m.low (low_mask m.max)
    && (eqb m.point (point_before m.max)
    && (spares_ok (point_before m.max) m.spares
    && leb (made_before m.spares (point_before m.max)) n)))))

-- "spares[s+1] = spares[s]"
abbrev pub begin_with : (new_group room : Bool) → (top : ℕ) → Index → Option Index
begin_with false room top x = some (widen x x.spares)
begin_with true true top x = some (widen x (x.spares ++ top ∷ []))
begin_with true false top x = none

-- "if it needs a new group, 2^(s+1) + spares[s] + 1 must be at most N, else no room"
unfoldable pub begin_before : Index → Option Index
begin_before x =
    let s = point_before x.max_bucket in
    let top = get_or x.spares s 0 in
    begin_with (ltb s (point_before (suc x.max_bucket))) (leb (2 ^ suc s + top + 1) x.size) top x

-- Refusal 1 and rule 2 are given as before, whatever the bytes, and where rule 2 holds, all addresses are as before.
pub record StoreAsBefore (s : List ℕ) : Type 0 where
  pub lengths : length_ok s ≡ length_before s
  pub rule : rule2 s ≡ meta_before (blocks s) (meta_at s)
  pub addresses : rule2 s ≡ true → AsBefore (max_at s) (spares_at s)

-- All addresses of an index are as before, those with one bucket more too, and so are the buckets that a new group
-- would bring, and begin.
pub record IndexAsBefore (x : Index) : Type 0 where
  pub addresses : AsBefore x.max_bucket x.spares
  pub coming : AsBefore (suc x.max_bucket) x.spares
  pub group : buckets_at (suc (point x.max_bucket)) ≡ 2 ^ suc (point_before x.max_bucket)
  pub begins : begin x ≡ begin_before x
