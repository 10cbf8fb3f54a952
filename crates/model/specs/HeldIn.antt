-- How often a pair is held, as a number: by how often it stands in the chains, unmoved and moved.
use Rattle.std.specs.Prelude.{cond, ℕ, ◌+◌, eqb}
use Rattle.page.specs.declared.Pair.{Pair}
use Rattle.model.specs.Index.{Job, idle, copying, clearing, Index, bucket, new_bucket, old_bucket}
use Rattle.model.specs.WellFormed.{unmoved_at, moved_at}

-- of a pair of bucket h, u b times unmoved and m b times moved in the chain of bucket b
abbrev pub held_no : Job → (new old h : ℕ) (u m : ℕ → ℕ) → ℕ
held_no idle n o h u m = u h + m h
held_no clearing n o h u m = u h + m h
held_no copying n o h u m = cond (eqb h n) (u n + (u o + m o)) (u h + m h)

unfoldable pub held_in : Index → Pair → ℕ
held_in x p = held_no x.job (new_bucket x) (old_bucket x) (bucket x p) (unmoved_at x p) (moved_at x p)
