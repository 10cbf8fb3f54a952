-- The begin of a split: its room, the fields of its meta block, and where its pages stand.
use Rattle.std.specs.Prelude.{◌≡◌, refl, ◌≢◌, Bool, List, [], ◌∷◌, ◌++◌, eqb, ltb}
use Rattle.std.proofs.Math.Path.{sym, ap, ap₂, fun_ext}
use Rattle.std.proofs.Common.{◌∙◌, append_assoc, arith, le-leb}
use Rattle.std.proofs.Math.Bool.{true, false}
use Rattle.std.proofs.Math.Option
use Rattle.std.proofs.Math.Option.{Option, some}
use Prim.Native.Nat.{ℕ, suc, pred, ◌+◌, ◌-◌, ◌≤◌, ◌<◌}
use Rattle.std.proofs.Math.Numerals.{add-one}
use Rattle.std.proofs.lemmas.Bool.{lt-leb}
use Rattle.std.proofs.Math.Dec.{leb}
use Rattle.std.proofs.Math.ListN.{length, get_or, set, replicate, length-append, get_or-append}
use Rattle.std.proofs.Math.Seq.{set_at, set-get_or}
use Rattle.lists.specs.Lists.{any, find, up_from}
use Rattle.lists.specs.ListsLaws.{tally-bind}
use Rattle.address.specs.Limits.{max_blocks, point_bound}
use Rattle.address.specs.Address.{buckets_at, split_from, high_mask, low_mask, point, bucket_point, bucket_block, made}
use Rattle.address.specs.OverLaws.{buckets-grow, buckets-mono}
use Rattle.address.specs.MaskLaws.{split-lt}
use Rattle.address.specs.LimitLaws.{buckets-last, point-under}
use Rattle.address.specs.PointLaws.{bucket_point-le}
use Rattle.address.specs.BlockLaws.{point-is, point-pos, bucket-apart}
use Rattle.address.specs.SparesLaws.{point-next}
use Rattle.model.specs.Index.{Index, no_chain, top_bit}
use Rattle.model.specs.Pages.{bits_of, bits_used, free_of, is_free, free_bit, first_free}
use Rattle.model.specs.Held.{count}
use Rattle.model.specs.Steps.{widen, begin}
use Rattle.model.specs.WellFormed.{Laid}
use Rattle.model.proofs.ViewLaws.{Beginning, no_point, same_point, new_point, begin-view}
use Rattle.model.specs.TallyLaws.{any-more}
use Rattle.model.proofs.LaidLaws.{begin-laid}
use Rattle.image.specs.declared.Meta.{Meta}
use Rattle.image.specs.Layout.{padded, meta_of}
use Rattle.image.proofs.BoundLaws.{max-under}
use Rattle.image.proofs.EncodeLaws.{bucket-inside}
use Rattle.frame.specs.BeginLaws.{Stays, stays-point, stays-more}
use Rattle.chain.specs.FindLaws.{is_some}
use Rattle.model.proofs.FrameLaws.{SameStore}
use Rattle.plan.specs.Fields.{fields_with}

module _ (x : Index) (l : Laid x) where
  abbrev m : ℕ
  m = x.max_bucket

  abbrev s : ℕ
  s = point x.max_bucket

  -- ---- the new overflow point

  point-low : point x.max_bucket < point_bound
  point-low = point-under x.spares s x.size l.spares.room l.size

  pub point-small : point (suc x.max_bucket) ≤ point_bound
  point-small = go (ltb s (point (suc m))) refl
    where
      go : (k : Bool) → ltb s (point (suc m)) ≡ k → point (suc m) ≤ point_bound
      go true e = omega (arith, point-low, point-next m true e)
      go false e = omega (arith, point-low, point-next m false e)

  pub buckets-small : buckets_at (point (suc x.max_bucket)) ≤ max_blocks
  buckets-small = omega (arith, buckets-last, buckets-mono (point (suc m)) point_bound point-small)

  -- ---- room

  pub begin-room : is_some (begin x) ≡ leb (buckets_at (point (suc x.max_bucket)) + top_bit x + 1) x.size
  unfolding made
  begin-room = go (begin-view x)
    where
      go : {o : Option Index} → Beginning x o → is_some o ≡ leb (buckets_at (point (suc m)) + top_bit x + 1) x.size
      go (no_point k h) =
          sym (lt-leb (buckets_at (point (suc m)) + top_bit x + 1) x.size
          (omega (arith, h, ap buckets_at (point-next m true k))))
      go (same_point k) =
          sym (le-leb (buckets_at (point (suc m)) + top_bit x + 1) x.size
          (omega (arith, l.spares.room, ap buckets_at (point-next m false k))))
      go (new_point k h) =
          sym (le-leb (buckets_at (point (suc m)) + top_bit x + 1) x.size
          (omega (arith, h, ap buckets_at (point-next m true k))))

  -- ---- the spares

  -- the new bucket's block, of all sixteen
  pub padded-new : bucket_block (padded x.spares) (suc x.max_bucket) ≡ bucket_block x.spares (suc x.max_bucket)
  unfolding padded bucket_block
  padded-new =
      ap (λ (n : ℕ). suc m + n + 1)
      (get_or-append x.spares (replicate (16 - length x.spares) 0) 0 (pred (bucket_point (suc m)))
      (omega (arith, l.spares.points, bucket_point-le (suc m) (suc s) (omega (arith, max-under x l, buckets-grow s)))))

  pub padded-top : get_or (padded x.spares) (point x.max_bucket) 0 ≡ top_bit x
  unfolding padded
  padded-top =
      get_or-append x.spares (replicate (16 - length x.spares) 0) 0 s (omega (arith, l.spares.points))

  -- the fields of its meta block
  module _ {f : Meta} (e : f ≡ meta_of x) where
    pub field_next : f.max + 1 ≡ suc x.max_bucket
    unfolding meta_of
    field_next = add-one f.max ∙ ap (λ (g : Meta). suc g.max) e

    pub field-point : f.point ≡ point x.max_bucket
    unfolding meta_of
    field-point = ap (λ (g : Meta). g.point) e

    pub field_top : get_or f.spares f.point 0 ≡ top_bit x
    unfolding meta_of
    field_top = ap (λ (g : Meta). get_or g.spares g.point 0) e ∙ padded-top

    pub field-size : f.size ≡ x.size
    unfolding meta_of
    field-size = ap (λ (g : Meta). g.size) e

  -- a new overflow point begins with the last one's; at the same point this is no change
  spares-next : {y : Index} → Beginning x (some y)
      → set (padded x.spares) (point (suc x.max_bucket)) (top_bit x) ≡ padded y.spares
  unfolding padded
  spares-next (same_point k) =
      ap₂ (set (padded x.spares)) (point-next m false k) (sym padded-top) ∙ set-get_or (padded x.spares) s 0
  spares-next (new_point k h) =
      let r : 16 - length x.spares ≡ suc (16 - length (x.spares ++ top_bit x ∷ [])) =
      omega (arith, length-append x.spares (top_bit x ∷ []), l.spares.points, point-low) in
      ap₂ (λ (n i : ℕ). set (x.spares ++ replicate n 0) i (top_bit x)) r (point-next m true k)
      ∙ set_at x.spares 0 (replicate (16 - length (x.spares ++ top_bit x ∷ [])) 0) (top_bit x) (suc s)
      l.spares.points
      ∙ sym (append_assoc x.spares (top_bit x ∷ []) (replicate (16 - length (x.spares ++ top_bit x ∷ [])) 0))

  -- ---- what a begin leaves

  stays : {y : Index} → Beginning x (some y) → Stays x y.spares (point (suc x.max_bucket))
  stays (same_point k) = stays-point x (point-next m false k) (begin-laid x l (same_point k))
  stays (new_point k h) = stays-more x l (point-next m true k) (begin-laid x l (new_point k h))

  widens : {y : Index} → Beginning x (some y) → y ≡ widen x y.spares
  widens (same_point k) = refl
  widens (new_point k h) = refl

  first-wider : (sq : List ℕ) → get_or sq (point (suc x.max_bucket)) 0 ≡ top_bit x → first_free (widen x sq)
      ≡ first_free x
  unfolding first_free free_bit
  first-wider sq e =
      let used : (n : ℕ) → any (eqb n) (bits_used (widen x sq)) ≡ any (eqb n) (bits_used x) =
      λ n. any-more (eqb n) (bits_used x) (bits_used (widen x sq)) false
      (omega (arith, tally-bind (eqb n) bits_of x.chains (no_chain ∷ []))) in
      let tests : Path (ℕ → Bool) (is_free (widen x sq)) (is_free x) =
      fun_ext (λ n. ap₂ (λ (top : ℕ) (u : Bool). free_of top u n) e (used n)) in
      λ i. Option.get_or (find (tests i) (up_from 0 (e i))) (e i)

  module _ (y : Index) (b : begin x ≡ some y) where
    begins : Beginning x (some y)
    begins = rw b at (begin-view x)

    pub next-laid : Laid y
    next-laid = begin-laid x l begins

    pub next-same : SameStore x y
    next-same =
        record {
          size = ap (λ (z : Index). z.size) (widens begins);
          number = ap (λ (z : Index). z.number) (widens begins);
        }

    -- the fields of the meta block, where f are those of x
    pub next-meta : (f : Meta) → f ≡ meta_of x → count y ≡ count x
        → (max high low p : ℕ) → max ≡ suc x.max_bucket → high ≡ high_mask max → low ≡ low_mask max → p ≡ point max
        → fields_with f f.count max high low p f.free (set f.spares p (get_or f.spares f.point 0)) ≡ meta_of y
    unfolding meta_of
    next-meta f e n max high low p q h k t =
        let w = sym (widens begins) in
        let free : f.free ≡ first_free y =
        ap (λ (g : Meta). g.free) e ∙ sym (first-wider y.spares (stays begins).last) ∙ ap first_free w in
        let top : get_or f.spares f.point 0 ≡ top_bit x = field_top e in
        let mx : max ≡ y.max_bucket = q ∙ ap (λ (z : Index). z.max_bucket) w in
        let cn : f.count ≡ count y = ap (λ (g : Meta). g.count) e ∙ sym n in
        let hi : high ≡ high_mask y.max_bucket = h ∙ ap high_mask mx in
        let lo : low ≡ low_mask y.max_bucket = k ∙ ap low_mask mx in
        let pt : p ≡ point y.max_bucket = t ∙ ap point mx in
        let sp : set f.spares p (get_or f.spares f.point 0) ≡ padded y.spares =
        (λ i. set (e i).spares ((t ∙ ap point q) i) (top i)) ∙ spares-next begins in
        let between : Meta =
        fields_with (meta_of x) (count y) y.max_bucket (high_mask y.max_bucket) (low_mask y.max_bucket)
        (point y.max_bucket) (first_free y) (padded y.spares) in
        let first : fields_with f f.count max high low p f.free
        (set f.spares p (get_or f.spares f.point 0)) ≡ between =
        λ i. fields_with (e i) (cn i) (mx i) (hi i) (lo i) (pt i) (free i) (sp i) in
        let last : between ≡ meta_of y =
        λ i. fields_with (meta_of (w i)) (count y) y.max_bucket (high_mask y.max_bucket) (low_mask y.max_bucket)
        (point y.max_bucket) (first_free y) (padded y.spares) in
        first ∙ last

    -- ---- where the pages stand

    pub new-inside : bucket_block x.spares (suc x.max_bucket) < x.size
    new-inside =
        omega (
          arith,
          bucket-inside y next-laid (suc m) (omega (arith, ap (λ (z : Index). z.max_bucket) (widens begins))),
          (stays begins).newest,
          next-same.size,
        )

    pub pages-apart : bucket_block x.spares (split_from (suc x.max_bucket)) ≢ bucket_block x.spares
        (suc x.max_bucket)
    pages-apart q =
        let a = stays begins in
        let o : ℕ = split_from (suc m) in
        let less = split-lt (suc m) (omega arith) in
        bucket-apart y.spares (point (suc m)) x.size a.ok (point-pos (suc m)) o (suc m)
        (omega (arith, less, max-under x l, a.wider)) (point-is (suc m)).over (λ e. omega (arith, less, e))
        (a.buckets o (omega (arith, less, max-under x l)) ∙ q ∙ sym a.newest)
