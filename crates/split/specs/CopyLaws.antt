-- An entry that is copied, and one that is cleared: what their planners ask, and the steps that they make.
use Rattle.std.specs.Prelude.{◌≡◌, false, List, ℕ}
use Rattle.std.proofs.Common.{sym, ap, ◌∙◌}
use Rattle.std.proofs.Math.Option.{some}
use Rattle.lists.specs.Lists.{any, find}
use Rattle.lists.specs.ListsLaws.{and_right, not_yes, find-yes}
use Rattle.page.specs.declared.Entry.{Entry}
use Rattle.page.specs.Pair.{is}
use Rattle.model.specs.Index.{copying, clearing, Index, entries_at, new_bucket, old_bucket}
use Rattle.model.specs.Pages.{put, cut}
use Rattle.model.specs.Held.{count}
use Rattle.model.specs.Steps.{next, or_full, moves, to_copy, step}
use Rattle.model.specs.WellFormed.{WF}
use Rattle.model.proofs.ViewLaws.{moved_entry}
use Rattle.model.proofs.StepLaws.{step-wf}
use Rattle.image.specs.declared.Meta.{Meta}
use Rattle.image.specs.Decode.{decode}
use Rattle.frame.specs.MetaLaws.{step_count}
use Rattle.view.specs.Reads.{Reads}
use Rattle.view.specs.ReadsLaws.{reads-max, reads-count}
use Rattle.split.specs.StepLaws.{step-copies, step-clears}

module _ {s : List ℕ} {m : Meta} (r : Reads s m) where
  abbrev x : Index
  x = decode s

  -- the next index of a step is well-formed, and has the same count
  next-ok : (y : Index) → step (decode s) ≡ next y → (WF y) × (count y ≡ m.count)
  next-ok y e = (step-wf x y r.wf e, step_count x r.wf y e ∙ sym (reads-count r))

  -- ---- an entry e without a copy

  module _ (job : (decode s).job ≡ copying) (e : Entry)
      (first : find (to_copy (decode s)) (entries_at (decode s) (old_bucket (decode s))) ≡ some e) where
    pub copy-absent : any (is e.pair) (entries_at (decode s) m.max) ≡ false
    copy-absent =
        ap (λ (b : ℕ). any (is e.pair) (entries_at x b)) (reads-max r)
        ∙ not_yes (any (is e.pair) (entries_at x (new_bucket x)))
        (and_right (moves x e) _ (find-yes (to_copy x) (entries_at x (old_bucket x)) e first).0)

    pub copy_step : step (decode s) ≡ or_full (put (decode s) m.max (moved_entry e.pair))
    copy_step =
        step-copies x job first ∙ ap (λ (b : ℕ). or_full (put x b (moved_entry e.pair))) (sym (reads-max r))

    pub copy-next : (y : Index) → put (decode s) m.max (moved_entry e.pair) ≡ some y → (WF y)
        × (count y ≡ m.count)
    copy-next y k = next-ok y (copy_step ∙ ap or_full k)

  -- ---- an entry e of the new bucket in the old chain

  module _ (job : (decode s).job ≡ clearing) (e : Entry)
      (first : find (moves (decode s)) (entries_at (decode s) (old_bucket (decode s))) ≡ some e) where
    pub clear_next : (WF (cut e.pair (old_bucket (decode s)) (decode s)))
        × (count (cut e.pair (old_bucket (decode s)) (decode s)) ≡ m.count)
    clear_next = next-ok (cut e.pair (old_bucket x) x) (step-clears x job first)
