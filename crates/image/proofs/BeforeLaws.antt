-- The parts of old-stores and old-changes: a max bucket below 512 has a point below 10, and a larger one no room.
use Rattle.std.specs.Prelude.{◌≡◌, refl, Bool, true, false, ◌&&◌, List, leb, ltb, eqb, length}
use Rattle.std.proofs.Common.{sym, ◌∙◌, arith, leb-true, le-leb}
use Rattle.std.proofs.Math.Path.{ap, ap₂}
use Prim.Native.Nat.{ℕ, suc, ◌+◌, ◌%◌, ◌^◌, ◌≤◌, ◌<◌}
use Rattle.std.proofs.Math.Decide.{dec_lt}
use Rattle.std.proofs.lemmas.Bool.{lt-leb}
use Rattle.std.proofs.Math.ListN.{get_or}
use Rattle.lists.specs.ListsLaws.{and_right, and-false}
use Rattle.lists.specs.Block.{blocks}
use Rattle.address.specs.Limits.{max_blocks}
use Rattle.address.specs.Address.{power, high_mask, low_mask, point, made}
use Rattle.address.specs.Before.{point_before, made_before}
use Rattle.address.specs.PhaseLaws.{buckets-low}
use Rattle.address.specs.OverLaws.{over-is, power-grows}
use Rattle.address.specs.BlockLaws.{point-is}
use Rattle.address.specs.PointLaws.{point-le}
use Rattle.address.specs.BeforeLaws.{point-few, point-before, made-before, as_before}
use Rattle.model.specs.Index.{Index, top_bit}
use Rattle.model.specs.Steps.{begin_in, begin}
use Rattle.model.specs.Calls.{fill_ok}
use Rattle.model.specs.WellFormed.{Laid}
use Rattle.model.proofs.BoundLaws.{laid-room}
use Rattle.image.specs.declared.Meta.{Meta}
use Rattle.image.specs.Decode.{meta_at, max_at, point_at, spares_at}
use Rattle.image.specs.Rules.{length_ok, spares_ok, meta_ok, rule2}
use Rattle.image.specs.Before.{old_blocks, length_before, meta_before, begin_with, begin_before}
use Rattle.image.specs.Before.{StoreAsBefore, IndexAsBefore}

-- ---- rule 2

-- rule 2 by its overflow point and made blocks
abbrev meta_by : (n : ℕ) → Meta → (s d : ℕ) → Bool
meta_by n m s d =
    fill_ok m.fill
    && (leb 1 m.max && (eqb m.high (high_mask m.max) && (eqb m.low (low_mask m.max)
    && (eqb m.point s && (spares_ok s m.spares && leb d n)))))

module _ (n : ℕ) (m : Meta) where
  no_room_lem : (s d : ℕ) → n < d → meta_by n m s d ≡ false
  no_room_lem s d h =
      rw (
        lt-leb d n h,
        and-false (spares_ok s m.spares),
        and-false (eqb m.point s),
        and-false (eqb m.low (low_mask m.max)),
        and-false (eqb m.high (high_mask m.max)),
        and-false (leb 1 m.max),
        and-false (fill_ok m.fill),
      )

  room_of : (s d : ℕ) → meta_by n m s d ≡ true → d ≤ n
  room_of s d h =
      leb-true d n
      (and_right (spares_ok s m.spares) _
      (and_right (eqb m.point s) _
      (and_right (eqb m.low (low_mask m.max)) _
      (and_right (eqb m.high (high_mask m.max)) _
      (and_right (leb 1 m.max) _ (and_right (fill_ok m.fill) _ h))))))

-- made blocks are more than max bucket, by either
made_more : (sp : List ℕ) (m : ℕ) → m < made sp (point m)
unfolding made
made_more sp m = omega (arith, (point-is m).over)

made_before-more : (sp : List ℕ) (m : ℕ) → m < made_before sp (point_before m)
unfolding made_before point_before
made_before-more sp m = omega (arith, (over-is power power-grows (omega arith) 1 m).over)

meta-before : (n : ℕ) (m : Meta) → n ≤ old_blocks → meta_ok n m ≡ meta_before n m
unfolding meta_ok meta_before
meta-before n m small = go (dec_lt m.max 512)
  where
    s : ℕ
    s = point m.max

    go : Dec (m.max < 512)
        → meta_by n m s (made m.spares s)
        ≡ meta_by n m (point_before m.max) (made_before m.spares (point_before m.max))
    go (yes h) =
        ap (meta_by n m s) (made-before m.spares s (point-few m.max h))
        ∙ ap (λ (i : ℕ). meta_by n m i (made_before m.spares i)) (point-before m.max h)
    go (no h) =
        no_room_lem n m s _ (omega (arith, made_more m.spares m.max))
        ∙ sym (no_room_lem n m (point_before m.max) _ (omega (arith, made_before-more m.spares m.max)))

length_before_lem : (s : List ℕ) → blocks s ≤ old_blocks → length_ok s ≡ length_before s
unfolding length_ok length_before
length_before_lem s small =
    ap (λ (b : Bool). eqb (length s % 512) 0 && (leb 4 (blocks s) && b))
    (le-leb (blocks s) max_blocks (omega arith) ∙ sym (le-leb (blocks s) old_blocks small))

pub store-before : (s : List ℕ) → blocks s ≤ old_blocks → StoreAsBefore s
unfolding rule2 meta_ok
store-before s small =
    record {
      lengths = length_before_lem s small;
      rule = meta-before (blocks s) (meta_at s) small;
      addresses =
          λ h.
          as_before (max_at s) (spares_at s)
          (omega (
            arith,
            made_more (meta_at s).spares (max_at s),
            room_of (blocks s) (meta_at s) (point_at s) (made (meta_at s).spares (point_at s)) h,
          ));
    }

-- ---- an index of at most 128 blocks

begin-top : (k room : Bool) (x : Index) → begin_in k room x ≡ begin_with k room (top_bit x) x
begin-top false room x = refl
begin-top true true x = refl
begin-top true false x = refl

module _ (x : Index) (l : Laid x) (small : x.size ≤ old_blocks) where
  few : suc x.max_bucket < 128
  few = omega (arith, laid-room x l)

  -- the point after the overflow point is no phase yet
  low : suc (point x.max_bucket) < 10
  low = omega (arith, point-le x.max_bucket 7 (omega (arith, few, buckets-low 7 (omega arith))) (omega arith))

  begin-before : begin x ≡ begin_before x
  unfolding begin begin_before
  begin-before =
      begin-top (ltb (point x.max_bucket) (point (suc x.max_bucket))) _ x
      ∙ ap₂ (λ (i d : ℕ). begin_with (ltb (point x.max_bucket) i) (leb (d + top_bit x + 1) x.size) (top_bit x) x)
      (point-before (suc x.max_bucket) (omega (arith, few)))
      (buckets-low (suc (point x.max_bucket)) low)
      ∙ ap (λ (i : ℕ). let top = get_or x.spares i 0 in
      begin_with (ltb i (point_before (suc x.max_bucket))) (leb (2 ^ suc i + top + 1) x.size) top x)
      (point-before x.max_bucket (omega (arith, few)))

  pub index-before : IndexAsBefore x
  index-before =
      record {
        addresses = as_before x.max_bucket x.spares (omega (arith, few));
        coming = as_before (suc x.max_bucket) x.spares (omega (arith, few));
        group =
            buckets-low (suc (point x.max_bucket)) low
            ∙ ap (λ (i : ℕ). 2 ^ suc i) (point-before x.max_bucket (omega (arith, few)));
        begins = begin-before;
      }
