-- The count of held pairs, chain by chain.
use mathlib.Core.Path.{◌≡◌, refl, sym, ap, ap₂, ◌∙◌}
use mathlib.Core.List.{List, map}
use Prim.Native.Nat.{ℕ, suc, ◌+◌, ◌-◌, ◌≤◌, ◌<◌}
use native.Mathlib.Omega.{arith}
use lib.ListN.{length, take, length-append, length-map}
use Rattle.lists.specs.Lists.{tally, keep, bind, up_from}
use Rattle.lists.specs.ListsLaws.{tally-cong, length-keep}
use Rattle.lists.specs.RunLaws.{length_run}
use Rattle.page.specs.declared.Entry.{Entry}
use Rattle.model.specs.declared.Phase.{Phase}
use Rattle.model.specs.Index.{Job, idle, copying, clearing, entries_at, old_bucket, new_bucket}
use Rattle.model.specs.Calls.{phase_in}
use Rattle.model.specs.Held.{lives_in, count}
use Rattle.image.specs.Decode.{max_at, read_chain, block_of, decode}
use Rattle.chain.specs.Walk.{Walked}
use Rattle.chain.specs.Within.{entries_on}
use Rattle.reader.specs.Job.{phase_at}
use Rattle.entries.specs.Counts.{live_in}
use Rattle.shape.specs.LoopLaws.{run-turn, run-done}
use Rattle.entries.specs.WalkedLaws.{walk-entries}

-- ---- the chains of a store

module _ (s : List ℕ) where
  -- the held entries of the chain of bucket b
  abbrev pub live_of : ℕ → List Entry
  live_of b = keep (lives_in (decode s).job (decode s) b) (entries_at (decode s) b)

  -- the number of held entries of the chains from bucket b on
  abbrev pub live_from : ℕ → ℕ
  live_from b = length (bind (up_from b (suc (max_at s) - b)) live_of)

  pub live-start : count (decode s) ≡ live_from 0
  unfolding count decode
  live-start =
      let n : length (map (read_chain s) (up_from 0 (suc (max_at s)))) ≡ suc (max_at s) - 0 =
      length-map (up_from 0 (suc (max_at s))) (read_chain s) ∙ length_run 0 (suc (max_at s)) ∙ omega arith in
      ap (λ (k : ℕ). length (bind (up_from 0 k) live_of)) n

  pub live-turn : (b : ℕ) → b ≤ max_at s → live_from b ≡ length (live_of b) + live_from (b + 1)
  live-turn b h =
      ap (λ (bs : List ℕ). length (bind bs live_of)) (run-turn b (suc (max_at s)) (omega arith))
      ∙ length-append (live_of b) (bind (up_from (b + 1) (suc (max_at s) - (b + 1))) live_of)

  pub live-done : (b : ℕ) → max_at s < b → live_from b ≡ 0
  live-done b h = ap (λ (bs : List ℕ). length (bind bs live_of)) (run-done b (suc (max_at s)) (omega arith))

  lives : (phase : Phase) → phase ≡ phase_at s → (b : ℕ) (e : Entry)
      → lives_in (decode s).job (decode s) b e ≡ live_in phase (max_at s) b e
  unfolding decode
  lives phase p b e = go (decode s).job ∙ ap (λ (q : Phase). live_in q (max_at s) b e) (sym p)
    where
      go : (j : Job)
          → lives_in j (decode s) b e
          ≡ live_in (phase_in j (old_bucket (decode s)) (new_bucket (decode s))) (max_at s) b e
      go idle = refl
      go copying = refl
      go clearing = refl

  -- those of a bucket's chain, counted along its walk
  pub live-walk : (phase : Phase) → phase ≡ phase_at s → (b : ℕ) → b ≤ max_at s → {bs : List ℕ} {n : ℕ}
      → Walked s (block_of s b) bs n → (max : ℕ) → max ≡ max_at s
      → tally (live_in phase max b) (bind (take n bs) (entries_on s)) ≡ length (live_of b)
  live-walk phase p b made held max e =
      ap₂ (λ (n : ℕ) (es : List Entry). tally (live_in phase n b) es) e (walk-entries b made held)
      ∙ sym (tally-cong (lives_in (decode s).job (decode s) b) (live_in phase (max_at s) b) (entries_at (decode s) b)
      (lives phase p b))
      ∙ sym (length-keep (lives_in (decode s).job (decode s) b) (entries_at (decode s) b))
