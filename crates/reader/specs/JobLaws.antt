-- The job by the flags of the pages of its two buckets.
use Rattle.std.specs.Prelude.{◌≡◌, ◌≢◌, List, ℕ, ◌≤◌}
use Rattle.std.proofs.Common.{ap, ◌∙◌, arith}
use borrow.Author.Tests.{eq-eqb, ne_eqb}
use Rattle.lists.specs.Block.{block}
use Rattle.address.specs.Address.{split_from}
use Rattle.address.specs.MaskLaws.{split-lt}
use Rattle.store.specs.Store.{flags_at}
use Rattle.model.specs.declared.Phase.{Phase}
use Rattle.image.specs.declared.Meta.{Meta}
use Rattle.image.specs.Decode.{max_at, block_of, new_flags, old_flags, decode}
use Rattle.reader.specs.Known.{Known2}
use Rattle.reader.specs.KnownLaws.{known-addressed, max-is}
use Rattle.reader.specs.Job.{phase_at}

module _ {s : List ℕ} {m : Meta} (known : Known2 s m) (b : ℕ) where
  -- the bucket that max bucket split off from
  pub old-low : b ≡ split_from m.max → b ≤ m.max
  old-low e = omega (arith, e, split-lt m.max (known-addressed known).two)

  module _ (f : ℕ) (flags : f ≡ flags_at (block s (block_of s b))) where
    pub new-flags : b ≡ m.max → f ≡ new_flags s
    new-flags e = flags ∙ ap (λ (n : ℕ). flags_at (block s (block_of s n))) (e ∙ max-is known)

    pub old-flags : b ≡ split_from m.max → f ≡ old_flags s
    old-flags e = flags ∙ ap (λ (n : ℕ). flags_at (block s (block_of s n))) (e ∙ ap split_from (max-is known))

module _ (s : List ℕ) where
  pub phase-copying : new_flags s ≡ 18 → phase_at s ≡ Phase.Copying (split_from (max_at s)) (max_at s)
  unfolding decode
  phase-copying e = rw (eq-eqb (new_flags s) 18 e)

  pub phase-clearing : new_flags s ≢ 18 → old_flags s ≡ 66 → phase_at s ≡ Phase.Clearing (split_from (max_at s)) (max_at s)
  unfolding decode
  phase-clearing n e = rw (ne_eqb (new_flags s) 18 n, eq-eqb (old_flags s) 66 e)

  pub phase-none : new_flags s ≢ 18 → old_flags s ≢ 66 → phase_at s ≡ Phase.None
  unfolding decode
  phase-none n e = rw (ne_eqb (new_flags s) 18 n, ne_eqb (old_flags s) 66 e)
