-- The ends of copying and clearing: flags of bucket pages in a sketch, and the plans of an index with another job.
use Rattle.std.specs.Prelude.{◌≡◌, refl, ◌≢◌, List, [], ◌∷◌, ℕ, suc, ◌*◌, ◌≤◌, ◌<◌, length}
use Rattle.std.proofs.Common.{sym, ap, ◌∙◌, subst, arith}
use Rattle.std.proofs.Math.Option.{none}
use Rattle.std.proofs.Math.Decide.{ℕ_discrete}
use Rattle.std.proofs.lemmas.List.Edits.{sets}
use Rattle.lists.specs.Lists.{find}
use Rattle.lists.specs.Block.{blocks, block, set_block}
use Rattle.endian.specs.Endian.{le16}
use Rattle.address.specs.Address.{last_split, point}
use Rattle.address.specs.MaskLaws.{split-lt}
use Rattle.address.specs.BlockLaws.{point-pos, bucket-apart}
use Rattle.page.specs.Entries.{encode_page}
use Rattle.store.specs.declared.Change.{Change}
use Rattle.store.specs.Store.{covered}
use Rattle.model.specs.Index.{Job, idle, copying, clearing, Index, chain, entries_at, new_bucket, old_bucket, set_job}
use Rattle.model.specs.Steps.{next, moves, to_copy, step}
use Rattle.model.proofs.HeldLaws.{old-new}
use Rattle.model.proofs.LaidLaws.{job-laid}
use Rattle.model.proofs.MachineLaws.{never}
use Rattle.image.specs.declared.Meta.{Meta}
use Rattle.image.specs.Layout.{paged, flags_in, encode_block}
use Rattle.image.specs.Decode.{decode}
use Rattle.image.proofs.BoundLaws.{max-under}
use Rattle.image.specs.PageOkLaws.{length-page_front}
use Rattle.image.proofs.EncodeLaws.{bucket-inside}
use Rattle.frame.specs.Frame.{Apart, page_block}
use Rattle.frame.specs.MetaLaws.{step-meta}
use Rattle.frame.specs.JobLaws.{frame-copied, frame-cleared, job-image, flags-old, flags-done}
use Rattle.draft.specs.Draft.{Draft, Edited}
use Rattle.draft.specs.SetLaws.{length-put, read_same, read-other}
use Rattle.draft.specs.Trim.{Trimmed}
use Rattle.view.specs.Reads.{Reads}
use Rattle.view.specs.ReadsLaws.{reads-laid, reads_sized, reads-size, reads-max}
use Rattle.plan.specs.Plan.{Plans}
use Rattle.plan.specs.Shape.{Shaped}
use Rattle.plan.specs.ShapeLaws.{shaped-length, shaped-covered, shaped-flags}
use Rattle.plan.specs.Sketch.{Sketch}
use Rattle.plan.specs.SketchLaws.{sketch-more, edited}
use Rattle.plan.specs.StoreLaws.{page-shape, page-few}
use Rattle.plan.specs.PlanLaws.{plans-of}
use Rattle.split.specs.StepLaws.{step-copies, step-clears}
use Rattle.split.specs.Job.{bucket_at, flagged, copied_draft, cleared_draft}

module _ {s : List ℕ} {m : Meta} (r : Reads s m) where
  abbrev x : Index
  x = decode s

  -- ---- a page with other flags

  module _ (b : ℕ) (made : b ≤ m.max) where
    pub at-inside : bucket_at s b < blocks s
    at-inside =
        subst (λ (n : ℕ). bucket_at s b < n) (sym (reads-size r))
        (bucket-inside x (reads-laid r) b (omega (arith, reads-max r)))

    front : length (encode_page (chain (decode s) b).first []) ≡ 492
    front = length-page_front (chain x b).first (page-few r b made 0 (omega arith))

    flagged-shape : (v : ℕ) → Shaped (flagged s b v) (encode_page (chain (decode s) b).first [])
        (last_split (decode s).max_bucket b) (page_block (decode s) b 1) b v
    flagged-shape v = shaped-flags front (page-shape r b made 0 (omega arith)) v

    flagged-full : (v : ℕ) → length (flagged s b v) ≡ 512
    flagged-full v = shaped-length front (flagged-shape v)

    -- its body is that of the index with another job
    flagged-job : (v : ℕ) (j : Job) → flags_in j (new_bucket (decode s)) (old_bucket (decode s)) b ≡ v
        → covered (flagged s b v) ≡ encode_block (set_job (decode s) j) (bucket_at s b)
    flagged-job v j e =
        shaped-covered front (flagged-shape v)
        ∙ ap (paged (encode_page (chain x b).first []) (last_split x.max_bucket b) (page_block x b 1) b) (sym e)
        ∙ sym (job-image x (reads-laid r) j b (omega (arith, reads-max r)))

    -- the flags are written where the sketch has the page as it is in the store
    pub sketch-flags : {c : Change} {images d : List ℕ} {n : ℕ} {ks : List ℕ} → Sketch s c images d n ks
        → Apart (bucket_at s b) ks → (v : ℕ) {c' : Change} {images' : List ℕ}
        → Edited s c images (bucket_at s b) (λ l. sets l 504 (le16 v)) c' images'
        → Sketch s c' images' (set_block d (bucket_at s b) (flagged s b v)) (suc n) (bucket_at s b ∷ ks)
    sketch-flags {d = d} g a v {c'} {images'} e =
        sketch-more g (bucket_at s b) at-inside (flagged s b v) (flagged-full v) e.lists
        (subst (λ (l : List ℕ). Draft s c' images' (set_block d (bucket_at s b) (sets l 504 (le16 v))))
        (g.rest (bucket_at s b) at-inside a) (edited g e))

  -- ---- the index with another job

  pub old_apart : bucket_at s (old_bucket (decode s)) ≢ bucket_at s (new_bucket (decode s))
  old_apart =
      let l = reads-laid r in
      bucket-apart x.spares (point x.max_bucket) x.size l.spares (point-pos x.max_bucket)
      (old_bucket x) (new_bucket x) (omega (arith, max-under x l, split-lt x.max_bucket l.two)) (max-under x l)
      (old-new x l)

  module _ (j : Job) (busy : (decode s).job ≢ idle) (steps : step (decode s) ≡ next (set_job (decode s) j)) (js : List ℕ)
      (frame : (k : ℕ) → Apart k (0 ∷ js) → encode_block (set_job (decode s) j) k ≡ encode_block (decode s) k) where
    -- the meta block stays
    frame-all : (k : ℕ) → Apart k js → encode_block (set_job (decode s) j) k ≡ encode_block (decode s) k
    frame-all k a = go (ℕ_discrete k 0)
      where
        go : Dec (k ≡ 0) → encode_block (set_job x j) k ≡ encode_block x k
        go (yes e) =
            ap (encode_block (set_job x j)) e ∙ step-meta x (set_job x j) r.wf busy steps refl (λ n. refl)
            ∙ ap (encode_block x) (sym e)
        go (no ne) = frame k (ne, a)

  -- ---- the end of copying

  module _ (new old : ℕ) (is-new : new ≡ new_bucket (decode s)) (is-old : old ≡ old_bucket (decode s))
      (job : (decode s).job ≡ copying)
      (left : find (to_copy (decode s)) (entries_at (decode s) (old_bucket (decode s))) ≡ none) where
    pub plans-copied : {c c' : Change} {images images' : List ℕ}
        → Sketch s c images (copied_draft s new old) 2 (bucket_at s old ∷ bucket_at s new ∷ [])
        → Trimmed s (copied_draft s new old) c' images'
        → Plans s c' images' (set_job (decode s) clearing)
    plans-copied g t =
        let y : Index = set_job x clearing in
        plans-of r g y (job-laid x clearing (reads-laid r)) (record { size = refl; number = refl })
        (bucket_at s old ∷ bucket_at s new ∷ [])
        (frame-all clearing busy (step-copies x job left) (bucket_at s old ∷ bucket_at s new ∷ [])
        (λ k a.
        frame-copied x (reads-laid r) k (
          a.0,
          (
            (λ q. a.1.1.0 (q ∙ ap (bucket_at s) (sym is-new))),
            ((λ q. a.1.0 (q ∙ ap (bucket_at s) (sym is-old))), tt),
          ),
        )))
        (λ k a. a) (
          (λ h. ap covered here-old ∙ flagged-job old old-under 66 clearing old-flags),
          ((λ h. ap covered here-new ∙ flagged-job new new_under 2 clearing new-flags), tt),
        )
        t
      where
        busy : (decode s).job ≢ idle
        busy e = never (cc)

        new_under : new ≤ m.max
        new_under = omega (arith, is-new, reads-max r)

        old-under : old ≤ m.max
        old-under = omega (arith, is-old, reads-max r, split-lt x.max_bucket (reads-laid r).two)

        apart : bucket_at s new ≢ bucket_at s old
        apart q = old_apart (ap (bucket_at s) (sym is-old) ∙ sym q ∙ ap (bucket_at s) is-new)

        old-flags : flags_in clearing (new_bucket x) (old_bucket x) old ≡ 66
        old-flags = ap (flags_in clearing (new_bucket x) (old_bucket x)) is-old ∙ (flags-old x (reads-laid r)).1

        new-flags : flags_in clearing (new_bucket x) (old_bucket x) new ≡ 2
        new-flags = ap (flags_in clearing (new_bucket x) (old_bucket x)) is-new ∙ flags-done x (reads-laid r)

        one : List ℕ
        one = set_block s (bucket_at s new) (flagged s new 2)

        length-one : length one ≡ 512 * blocks s
        length-one =
            length-put (blocks s) s (reads_sized r).whole (bucket_at s new) (at-inside new new_under) (flagged s new 2)
            (flagged-full new new_under 2)

        here-old : block (copied_draft s new old) (bucket_at s old) ≡ flagged s old 66
        here-old =
            read_same (blocks s) one length-one (bucket_at s old) (at-inside old old-under) (flagged s old 66)
            (flagged-full old old-under 66)

        here-new : block (copied_draft s new old) (bucket_at s new) ≡ flagged s new 2
        here-new =
            read-other (blocks s) one length-one (bucket_at s old) (at-inside old old-under) (flagged s old 66)
            (flagged-full old old-under 66) (bucket_at s new) (at-inside new new_under) apart
            ∙ read_same (blocks s) s (reads_sized r).whole (bucket_at s new) (at-inside new new_under)
            (flagged s new 2)
            (flagged-full new new_under 2)

  -- ---- the end of clearing

  module _ (old : ℕ) (is-old : old ≡ old_bucket (decode s)) (job : (decode s).job ≡ clearing)
      (left : find (moves (decode s)) (entries_at (decode s) (old_bucket (decode s))) ≡ none) where
    pub plans-cleared : {c c' : Change} {images images' : List ℕ}
        → Sketch s c images (cleared_draft s old) 1 (bucket_at s old ∷ []) → Trimmed s (cleared_draft s old) c' images'
        → Plans s c' images' (set_job (decode s) idle)
    plans-cleared g t =
        plans-of r g (set_job x idle) (job-laid x idle (reads-laid r)) (record { size = refl; number = refl })
        (bucket_at s old ∷ [])
        (frame-all idle busy (step-clears x job left) (bucket_at s old ∷ [])
        (λ k a. frame-cleared x (reads-laid r) job k (a.0, ((λ q. a.1.0 (q ∙ ap (bucket_at s) (sym is-old))), tt))))
        (λ k a. a)
        ((λ h. ap covered here-old ∙ flagged-job old old-under 2 idle refl), tt)
        t
      where
        busy : (decode s).job ≢ idle
        busy e = never (cc)

        old-under : old ≤ m.max
        old-under = omega (arith, is-old, reads-max r, split-lt x.max_bucket (reads-laid r).two)

        here-old : block (cleared_draft s old) (bucket_at s old) ≡ flagged s old 2
        here-old =
            read_same (blocks s) s (reads_sized r).whole (bucket_at s old) (at-inside old old-under) (flagged s old 2)
            (flagged-full old old-under 2)
