-- Rule 7 in its two parts, by the job's phase.
use mathlib.Core.Path.{◌≡◌, refl, sym, ap, ap₂, ◌∙◌}
use mathlib.Core.Bool.{Bool, ◌&&◌}
use mathlib.Core.List.{List}
use Prim.Native.Nat.{ℕ, ◌≤◌}
use native.Mathlib.Omega.{arith}
use lib.ListN.{take}
use Rattle.lists.specs.Lists.{all, bind}
use Rattle.address.specs.Address.{bucket_of, split_from}
use Rattle.address.specs.MaskLaws.{split-lt}
use Rattle.page.specs.declared.Entry.{Entry}
use Rattle.model.specs.declared.Phase.{Phase}
use Rattle.model.specs.Index.{Job, idle, copying, clearing, entries_at, bucket, old_bucket, new_bucket}
use Rattle.model.specs.Calls.{phase_in}
use Rattle.image.specs.declared.Meta.{Meta}
use Rattle.image.specs.Decode.{max_at, block_of, decode}
use Rattle.image.specs.Rules.{placed, copied, buckets, rule7}
use Rattle.chain.specs.Walk.{Walked}
use Rattle.chain.specs.Within.{entries_on}
use Rattle.reader.specs.Known.{Known2}
use Rattle.reader.specs.KnownLaws.{max-pos}
use Rattle.reader.specs.Job.{phase_at}
use Rattle.entries.specs.Tests.{stands_in, marks_in}
use Rattle.entries.specs.WalkedLaws.{walk-entries}

module _ (s : List ℕ) where
  -- each entry of the chain of bucket b may stand there
  abbrev pub homed : Phase → ℕ → Bool
  homed phase b = all (λ e. stands_in phase (bucket_of (max_at s) e.pair.hash) b) (entries_at (decode s) b)

  pub places-parts : (phase : Phase) → phase ≡ phase_at s → rule7 s ≡ all (homed phase) (buckets s) && marks_in s phase
  unfolding rule7 decode
  places-parts phase e =
      go (decode s).job ∙ ap (λ (p : Phase). all (homed p) (buckets s) && marks_in s p) (sym e)
    where
      old : ℕ
      old = old_bucket (decode s)

      new : ℕ
      new = new_bucket (decode s)

      go : (j : Job)
          → all (λ b. all (λ e. placed j new old (bucket (decode s) e.pair) b) (entries_at (decode s) b)) (buckets s)
          && copied j (entries_at (decode s) new) (entries_at (decode s) old)
          ≡ all (homed (phase_in j old new)) (buckets s) && marks_in s (phase_in j old new)
      go idle = refl
      go copying = refl
      go clearing = refl

  -- what the test of a bucket's walk tells
  pub walk-homed : (phase : Phase) (b : ℕ) → b ≤ max_at s → {bs : List ℕ} {n : ℕ} → Walked s (block_of s b) bs n
      → (max : ℕ) → max ≡ max_at s
      → all (λ e. stands_in phase (bucket_of max e.pair.hash) b) (bind (take n bs) (entries_on s)) ≡ homed phase b
  walk-homed phase b made held max e =
      ap₂ (λ (n : ℕ) (es : List Entry). all (λ e. stands_in phase (bucket_of n e.pair.hash) b) es) e
      (walk-entries b made held)

  -- ---- the buckets of a job that copies

  pub record Copies (old new : ℕ) : Type 0 where
    pub old-made : old ≤ max_at s
    pub new-made : new ≤ max_at s

  pub copying-made : {m : Meta} → Known2 s m → (phase : Phase) → phase ≡ phase_at s → (old new : ℕ)
      → phase ≡ Phase.Copying old new → Copies old new
  unfolding decode
  copying-made k phase e old new q = go (decode s).job (sym e ∙ q)
    where
      go : (j : Job) → phase_in j (old_bucket (decode s)) (new_bucket (decode s)) ≡ Phase.Copying old new → Copies old new
      go idle h = let z : ◌≡◌ {A = ℕ} 0 1 = cc in absurd (omega arith)
      go clearing h = let z : ◌≡◌ {A = ℕ} 0 1 = cc in absurd (omega arith)
      go copying h =
          let o : split_from (max_at s) ≡ old = cc in
          let n : max_at s ≡ new = cc in
          record { old-made = omega (arith, o, split-lt (max_at s) (max-pos k)); new-made = omega (arith, n) }
