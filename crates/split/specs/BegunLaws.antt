-- The edits of a begin, one after the other, and its plan.
use Rattle.std.specs.Prelude.{◌≡◌, refl, ◌≢◌, true, false, List, [], ◌∷◌, ◌++◌, ℕ, ◌+◌, ◌^◌, ◌≤◌, ◌<◌, length, drop}
use Rattle.std.proofs.Common.{sym, ◌∙◌, subst, add-one, arith}
use Rattle.std.proofs.Math.Path.{ap}
use Rattle.std.proofs.Math.Option.{Option, none, some}
use Rattle.std.proofs.lemmas.List.Edits.{sets}
use Rattle.lists.specs.Block.{blocks, block, set_block}
use Rattle.endian.specs.Endian.{le16, le32}
use Rattle.address.specs.Address.{buckets_at, point, bucket_block}
use Rattle.address.specs.LimitLaws.{max-spared}
use Rattle.address.specs.MaskLaws.{split-lt}
use Rattle.address.specs.BlockLaws.{point-pos, bucket-pos}
use Rattle.page.specs.Entries.{encode_page}
use Rattle.store.specs.declared.Change.{Change}
use Rattle.store.specs.Store.{trailer, covered}
use Rattle.model.specs.Index.{idle, Index, chain}
use Rattle.model.specs.Held.{count, wanted}
use Rattle.model.specs.Steps.{or_full, begin}
use Rattle.model.proofs.BoundLaws.{laid-size}
use Rattle.model.proofs.ViewLaws.{Beginning, begin-view}
use Rattle.model.proofs.MachineLaws.{never}
use Rattle.image.specs.declared.Meta.{Meta}
use Rattle.image.specs.Layout.{paged, meta_front, padded, meta_of}
use Rattle.store.specs.Flags.{no_link}
use Rattle.image.specs.Decode.{decode}
use Rattle.image.proofs.BoundLaws.{length-meta}
use Rattle.image.specs.PageOkLaws.{length-page_front}
use Rattle.frame.specs.Frame.{page_block, begin_blocks}
use Rattle.frame.specs.ImagesLaws.{meta-image}
use Rattle.frame.specs.MetaLaws.{step_count}
use Rattle.frame.specs.BeginLaws.{frame-begin}
use Rattle.frame.specs.BeginPagesLaws.{begin-new, begin-old}
use Rattle.draft.specs.Draft.{Draft, Edited}
use Rattle.draft.specs.SetLaws.{read_same}
use Rattle.draft.specs.Trim.{Trimmed}
use Rattle.chain.specs.FindLaws.{is_some}
use Rattle.view.specs.Reads.{Reads}
use Rattle.view.specs.ReadsLaws.{reads-laid, reads_sized, reads-size, reads-block, reads-meta, reads-max, reads-low}
use Rattle.plan.specs.Plan.{Plans}
use Rattle.plan.specs.Shape.{Shaped}
use Rattle.plan.specs.ShapeLaws.{shaped-length, shaped-covered, shaped-prev, shaped-flags, shaped-front, shaped-new}
use Rattle.plan.specs.Sketch.{Sketch}
use Rattle.plan.specs.SketchLaws.{sketch-here, sketch-there, sketch-more, sketch-again, edited}
use Rattle.plan.specs.StoreLaws.{meta-shape, page-shape, page-few}
use Rattle.plan.specs.PlanLaws.{plans-of}
use Rattle.split.specs.StepLaws.{step-begins}
use Rattle.split.specs.Job.{bucket_at}
use Rattle.split.specs.JobLaws.{at-inside}
use Rattle.split.specs.Begin.{next_bucket, parent_bucket, new_page, made_draft, old_linked, linked_draft, old_page}
use Rattle.split.specs.Begin.{begun_draft, Begun}
use Rattle.split.specs.BeginLaws.{padded-new, field_next, next-laid, next-same, new-inside, pages-apart}

-- ---- whether there is a next index

pub some_is : {A : Type 0} (o : Option A) → is_some o ≡ true → (y : A) × (o ≡ some y)
some_is none e = never (cc)
some_is (some y) e = (y, refl)

pub none_is : {A : Type 0} (o : Option A) → is_some o ≡ false → o ≡ none
none_is none e = refl
none_is (some y) e = never (cc)

module _ {s : List ℕ} {m : Meta} (r : Reads s m) (y : Index) (b : begin (decode s) ≡ some y) where
  abbrev x : Index
  x = decode s

  abbrev n : ℕ
  n = next_bucket s

  abbrev o : ℕ
  o = parent_bucket s

  -- ---- the buckets and their blocks, as code finds them

  pub new-read : m.max + 1 ≡ next_bucket s
  new-read = field_next x (reads-laid r) (reads-meta r)

  pub new-block : bucket_block m.spares (m.max + 1) ≡ bucket_at s (next_bucket s)
  unfolding meta_of
  new-block =
      ap (λ (f : Meta). bucket_block f.spares (f.max + 1)) (reads-meta r)
      ∙ ap (bucket_block (padded x.spares)) (add-one x.max_bucket) ∙ padded-new x (reads-laid r)

  pub old-under : parent_bucket s ≤ m.max
  old-under = omega (arith, reads-max r, split-lt n (omega arith))

  pub new-at : bucket_at s (next_bucket s) < blocks s
  new-at = subst (λ (k : ℕ). bucket_at s n < k) (sym (reads-size r)) (new-inside x (reads-laid r) y b)

  pub old-at : bucket_at s (parent_bucket s) < blocks s
  old-at = at-inside r o old-under

  -- what `bucket_block` asks of the new bucket
  pub new-fits : (m.max + 1 < buckets_at 16) × (bucket_block m.spares (m.max + 1) < 2 ^ 32)
  new-fits = (omega (arith, reads-low r, max-spared), omega (arith, new-block, new-at, (reads_sized r).few))

  apart : bucket_at s (parent_bucket s) ≢ bucket_at s (next_bucket s)
  apart = pages-apart x (reads-laid r) y b

  front : length (encode_page (chain (decode s) (parent_bucket s)).first []) ≡ 492
  front = length-page_front (chain x o).first (page-few r o old-under 0 (omega arith))

  -- ---- shapes

  new-shape : Shaped (new_page s) (encode_page [] []) (next_bucket s) no_link (next_bucket s) 18
  new-shape = shaped-new (block s (bucket_at s n)) [] n no_link n 18 (reads-block r (bucket_at s n) new-at)

  old-shape : Shaped (old_page s) (encode_page (chain (decode s) (parent_bucket s)).first []) (next_bucket s)
      (page_block (decode s) (parent_bucket s) 1) (parent_bucket s) 34
  old-shape = shaped-flags front (shaped-prev front (page-shape r o old-under 0 (omega arith)) n) 34

  linked-full : length (old_linked s) ≡ 512
  linked-full = shaped-length front (shaped-prev front (page-shape r o old-under 0 (omega arith)) n)

  new-full : length (new_page s) ≡ 512
  new-full = shaped-length (length-page_front [] (omega arith)) new-shape

  old-full : length (old_page s) ≡ 512
  old-full = shaped-length front old-shape

  -- ---- the edits, where k is the block and v the new bucket, as code has them

  module _ {c c' : Change} {images images' : List ℕ} (k v : ℕ) where
    pub begun-made : k ≡ bucket_at s (next_bucket s) → v ≡ next_bucket s → Sketch s c images s 0 []
        → Edited s c images k (λ l. encode_page [] (trailer v no_link v 18 ++ drop 508 l)) c' images'
        → Sketch s c' images' (made_draft s) 1 (bucket_at s (next_bucket s) ∷ [])
    begun-made q w g e =
        let e' : Edited s c images (bucket_at s n)
        (λ l. encode_page [] (trailer n no_link n 18 ++ drop 508 l)) c' images' =
        subst (λ (u : ℕ). Edited s c images (bucket_at s n)
        (λ l. encode_page [] (trailer u no_link u 18 ++ drop 508 l)) c' images') w
        (subst (λ (j : ℕ). Edited s c images j
        (λ l. encode_page [] (trailer v no_link v 18 ++ drop 508 l)) c' images') q e) in
        sketch-more g (bucket_at s n) new-at (new_page s) new-full e'.lists (edited g e')

    pub begun-linked : k ≡ bucket_at s (parent_bucket s) → v ≡ next_bucket s
        → Sketch s c images (made_draft s) 1 (bucket_at s (next_bucket s) ∷ [])
        → Edited s c images k (λ l. sets l 492 (le32 v)) c' images'
        → Sketch s c' images' (linked_draft s) 2 (bucket_at s (parent_bucket s) ∷ bucket_at s (next_bucket s) ∷ [])
    begun-linked q w g e =
        let e' : Edited s c images (bucket_at s o) (λ l. sets l 492 (le32 n)) c' images' =
        subst (λ (u : ℕ). Edited s c images (bucket_at s o) (λ l. sets l 492 (le32 u)) c' images') w
        (subst (λ (j : ℕ). Edited s c images j (λ l. sets l 492 (le32 v)) c' images') q e) in
        sketch-more g (bucket_at s o) old-at (old_linked s) linked-full e'.lists
        (subst (λ (l : List ℕ). Draft s c' images' (set_block (made_draft s) (bucket_at s o) (sets l 492 (le32 n))))
        (g.rest (bucket_at s o) old-at (apart, tt)) (edited g e'))

  -- from the sketch before the last edit
  module _ {c c' : Change} {images images' : List ℕ} (k : ℕ) (q : k ≡ bucket_at s (parent_bucket s))
      {c₁ : Change} {images₁ : List ℕ} (g₁ : Sketch s c₁ images₁ (made_draft s) 1 (bucket_at s (next_bucket s) ∷ []))
      (g : Sketch s c images (linked_draft s) 2 (bucket_at s (parent_bucket s) ∷ bucket_at s (next_bucket s) ∷ []))
      (e : Edited s c images k (λ l. sets l 504 (le16 34)) c' images') where
    at_old : block (linked_draft s) (bucket_at s (parent_bucket s)) ≡ old_linked s
    at_old = sketch-here g₁ (bucket_at s o) old-at (old_linked s) linked-full

    last : Sketch s c' images' (begun_draft s) 2
        (bucket_at s (parent_bucket s) ∷ bucket_at s (parent_bucket s) ∷ bucket_at s (next_bucket s) ∷ [])
    last =
        let e' : Edited s c images (bucket_at s o) (λ l. sets l 504 (le16 34)) c' images' =
        subst (λ (j : ℕ). Edited s c images j (λ l. sets l 504 (le16 34)) c' images') q e in
        sketch-again g (bucket_at s o) old-at (old_page s) old-full e'.lists
        (subst (λ (l : List ℕ). Draft s c' images' (set_block (linked_draft s) (bucket_at s o) (sets l 504 (le16 34))))
        at_old (edited g e'))
        g.listed.0

    pub begun-last : Begun s c' images'
    begun-last =
        let there : block (begun_draft s) (bucket_at s n) ≡ new_page s =
        sketch-there g (bucket_at s o) old-at (old_page s) old-full (bucket_at s n) new-at (λ z. apart (sym z))
        ∙ sketch-there g₁ (bucket_at s o) old-at (old_linked s) linked-full (bucket_at s n) new-at (λ z. apart (sym z))
        ∙ read_same (blocks s) s (reads_sized r).whole (bucket_at s n) new-at (new_page s) new-full in
        let here : block (begun_draft s) (bucket_at s o) ≡ old_page s =
        sketch-here g (bucket_at s o) old-at (old_page s) old-full in
        record { made = begun_draft s; sketch = last; new = rw there new-shape; old = rw here old-shape }

  -- ---- the fields of the meta block, and the plan

  pub zero-at : 0 < blocks s
  zero-at = omega (arith, reads-size r, laid-size x (reads-laid r))

  pub begin-count : (decode s).job ≡ idle → wanted (decode s) ≡ true → count y ≡ count (decode s)
  begin-count job want = step_count x r.wf y (step-begins x job want ∙ ap or_full b)

  module _ {c c' : Change} {images images' : List ℕ} (u : Begun s c images) (f : Meta) (fields : f ≡ meta_of y)
      (e : Edited s c images 0 (λ l. meta_front f ++ drop 492 l) c' images') where
    abbrev meta_page : List ℕ
    meta_page = meta_front f ++ drop 492 (block u.made 0)

    block-pos : (d : ℕ) → 0 ≢ bucket_at s d
    block-pos d q =
        omega (
          arith,
          q,
          bucket-pos x.spares (point x.max_bucket) x.size (reads-laid r).spares (point-pos x.max_bucket) d,
        )

    meta-old : Shaped (block u.made 0) (meta_front (meta_of (decode s))) no_link no_link no_link 8
    meta-old =
        subst (λ (l : List ℕ). Shaped l (meta_front (meta_of x)) no_link no_link no_link 8)
        (sym (u.sketch.rest 0 zero-at (block-pos o, (block-pos o, (block-pos n, tt)))))
        (meta-shape r (omega (arith, laid-size x (reads-laid r))))

    meta-new : Shaped (meta_front f ++ drop 492 (block u.made 0)) (meta_front f) no_link no_link no_link 8
    meta-new = shaped-front (length-meta x (reads-laid r)) meta-old (meta_front f)

    meta-length : length (meta_front f) ≡ 492
    meta-length = ap (λ (g : Meta). length (meta_front g)) fields ∙ length-meta y (next-laid x (reads-laid r) y b)

    meta-full : length (meta_front f ++ drop 492 (block u.made 0)) ≡ 512
    meta-full = shaped-length meta-length meta-new

    pub fields-sketch : Sketch s c' images' (set_block u.made 0 (meta_front f ++ drop 492 (block u.made 0))) 3
        (0 ∷ bucket_at s (parent_bucket s) ∷ bucket_at s (parent_bucket s) ∷ bucket_at s (next_bucket s) ∷ [])
    fields-sketch = sketch-more u.sketch 0 zero-at meta_page meta-full e.lists (edited u.sketch e)

    pub plans-begun : x.job ≡ idle → {c'' : Change} {images'' : List ℕ}
        → Trimmed s (set_block u.made 0 (meta_front f ++ drop 492 (block u.made 0))) c'' images''
        → Plans s c'' images'' y
    plans-begun job t =
        let l = reads-laid r in
        let v : Beginning x (some y) = rw b at (begin-view x) in
        plans-of r fields-sketch y (next-laid x l y b) (next-same x l y b) (begin_blocks x)
        (λ k a. frame-begin x l job v k a)
        (λ k a. (a.0, (a.1.1.0, (a.1.1.0, (a.1.0, tt))))) (
          (λ h. ap covered (sketch-here u.sketch 0 zero-at meta_page meta-full) ∙ shaped-covered meta-length meta-new
              ∙ ap (λ (g : Meta). paged (meta_front g) no_link no_link no_link 8) fields
              ∙ sym (meta-image y (next-laid x l y b))),
          (
            (λ h. ap covered (sketch-there u.sketch 0 zero-at meta_page meta-full (bucket_at s n) new-at
                (λ q. block-pos n (sym q)))
                ∙ shaped-covered (length-page_front [] (omega arith)) u.new ∙ sym (begin-new x l v)),
            (
              (λ h. ap covered (sketch-there u.sketch 0 zero-at meta_page meta-full (bucket_at s o) old-at
                  (λ q. block-pos o (sym q)))
                  ∙ shaped-covered front u.old ∙ sym (begin-old x l v)),
              tt,
            ),
          ),
        )
        t
