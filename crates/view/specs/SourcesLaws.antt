-- The sources of a hash code: the buckets in whose chains its pairs are held, and how code finds them.
use Rattle.std.proofs.Math.Path.{◌≡◌, refl, sym, ap}
use Rattle.std.proofs.Common.{◌∙◌, arith, eq-eqb, ne_eqb}
use Rattle.std.specs.Prelude.{◌≢◌, Bool, cond, not, List, ◌++◌, ℕ, ◌≤◌}
use Rattle.std.proofs.Math.Bool.{true, false}
use Rattle.std.proofs.Math.Dec.{eqb}
use Rattle.lists.specs.Lists.{keep}
use Rattle.lists.specs.ListsLaws.{eqb-eq}
use Rattle.lists.specs.Block.{block}
use Rattle.address.specs.Address.{bucket_of, split_from}
use Rattle.address.specs.MaskLaws.{split-lt}
use Rattle.address.proofs.BucketLaws.{bucket-le}
use Rattle.page.specs.declared.Entry.{Entry}
use Rattle.store.specs.Store.{flags_at}
use Rattle.model.specs.Index.{Job, idle, copying, clearing, Index, entries_at, new_bucket, old_bucket}
use Rattle.model.specs.Held.{sources}
use Rattle.model.specs.Held as model
use Rattle.image.specs.declared.Meta.{Meta}
use Rattle.image.specs.Decode.{max_at, block_of, new_flags, old_flags, decode}
use Rattle.view.specs.declared.Sources.{Sources}
use Rattle.view.specs.Reads.{Reads}
use Rattle.view.specs.ReadsLaws.{reads-laid, reads-max}
use Rattle.view.specs.Places.{sources_by, sources_of}

-- the entries of the sources
abbrev pub entries_by : Index → Sources → List Entry
entries_by x (Sources.Home b) = entries_at x b
entries_by x (Sources.Both new old) = keep (λ e. not e.moved) (entries_at x new) ++ entries_at x old

pub sources-by : (x : Index) (h : ℕ) → sources x h ≡ entries_by x (sources_of x h)
unfolding sources sources_of
sources-by x h = go x.job (eqb (bucket_of x.max_bucket h) (new_bucket x))
  where
    b : ℕ
    b = bucket_of x.max_bucket h

    go : (j : Job) (new : Bool) → model.sources_in j x b new ≡ entries_by x (sources_by j (old_bucket x) b new)
    go idle new = refl
    go clearing new = refl
    go copying true = refl
    go copying false = refl

-- two sources are those of a copying job
pub record BothOf (x : Index) (h a o : ℕ) : Type 0 where
  pub job : x.job ≡ copying
  pub home : bucket_of x.max_bucket h ≡ new_bucket x
  pub new : a ≡ new_bucket x
  pub old : o ≡ old_bucket x

module _ (x : Index) (h : ℕ) where
  abbrev b : ℕ
  b = bucket_of x.max_bucket h

  pub sources-both : (new old : ℕ) → sources_of x h ≡ Sources.Both new old → BothOf x h new old
  unfolding sources_of
  sources-both new old e = go x.job (eqb b (new_bucket x)) refl refl e
    where
      go : (j : Job) (t : Bool) → x.job ≡ j → eqb b (new_bucket x) ≡ t
          → sources_by j (old_bucket x) b t ≡ Sources.Both new old → BothOf x h new old
      go idle t k f e = let z : ◌≡◌ {A = ℕ} 0 1 = cc in absurd (omega arith)
      go clearing t k f e = let z : ◌≡◌ {A = ℕ} 0 1 = cc in absurd (omega arith)
      go copying false k f e = let z : ◌≡◌ {A = ℕ} 0 1 = cc in absurd (omega arith)
      go copying true k f e =
          let n : b ≡ new_bucket x = eqb-eq b (new_bucket x) f in
          record { job = k; home = n; new = cc; old = cc }

  pub sources-home : (d : ℕ) → sources_of x h ≡ Sources.Home d → d ≡ bucket_of x.max_bucket h
  unfolding sources_of
  sources-home d e = go x.job (eqb b (new_bucket x)) e
    where
      go : (j : Job) (t : Bool) → sources_by j (old_bucket x) b t ≡ Sources.Home d → d ≡ b
      go idle t e = cc
      go clearing t e = cc
      go copying false e = cc
      go copying true e = let z : ◌≡◌ {A = ℕ} 0 1 = cc in absurd (omega arith)

-- ---- in a store

module _ {s : List ℕ} {m : Meta} (r : Reads s m) (h : ℕ) where
  pub home-made : (b : ℕ) → sources_of (decode s) h ≡ Sources.Home b → b ≤ m.max
  home-made b e =
      omega (
        arith,
        sources-home (decode s) h b e,
        bucket-le (decode s).max_bucket h (reads-laid r).two,
        reads-max r,
      )

  pub both-made : (new old : ℕ) → sources_of (decode s) h ≡ Sources.Both new old → (new ≤ m.max) × (old ≤ m.max)
  both-made new old e =
      let i = sources-both (decode s) h new old e in (
        omega (arith, i.new, reads-max r),
        omega (arith, i.old, split-lt (decode s).max_bucket (reads-laid r).two, reads-max r),
      )

  -- how code finds them, by the bucket's number and by its flags
  module _ (b : ℕ) (home : b ≡ bucket_of m.max h) where
    abbrev max : ℕ
    max = max_at s

    max-is : m.max ≡ max_at s
    max-is = ap (λ (k : Meta). k.max) r.meta

    bucket-is : b ≡ bucket_of max h
    bucket-is = home ∙ ap (λ (k : ℕ). bucket_of k h) max-is

    single : (j : Job) → Sources.Home b ≡ sources_by j (split_from max) b false
    single idle = refl
    single clearing = refl
    single copying = refl

    pub source-other : b ≢ m.max → Sources.Home b ≡ sources_of (decode s) h
    unfolding decode sources_of
    source-other ne =
        single (decode s).job
        ∙ ap (sources_by (decode s).job (split_from max) b) (sym (ne_eqb b max (λ q. ne (q ∙ sym max-is))))
        ∙ ap (λ (k : ℕ). sources_by (decode s).job (split_from max) k (eqb k max)) bucket-is

    module _ (same : b ≡ m.max) (f : ℕ) (flags : f ≡ flags_at (block s (block_of s b))) where
      flags-are : f ≡ new_flags s
      flags-are = flags ∙ ap (λ (k : ℕ). flags_at (block s (block_of s k))) (same ∙ max-is)

      pub source-settled : f ≢ 18 → Sources.Home b ≡ sources_of (decode s) h
      unfolding decode sources_of
      source-settled ne =
          go (eqb (old_flags s) 66) (eqb b max)
          ∙ ap (λ (t : Bool). sources_by (cond t copying (cond (eqb (old_flags s) 66) clearing idle)) (split_from max) b (eqb b max))
          (sym (ne_eqb (new_flags s) 18 (λ q. ne (flags-are ∙ q))))
          ∙ ap (λ (k : ℕ). sources_by (decode s).job (split_from max) k (eqb k max)) bucket-is
        where
          go : (t c : Bool) → Sources.Home b ≡ sources_by (cond t clearing idle) (split_from max) b c
          go true c = refl
          go false c = refl

      pub source-populated : f ≡ 18 → Sources.Both b (split_from b) ≡ sources_of (decode s) h
      unfolding decode sources_of
      source-populated q =
          ap (λ (k : ℕ). Sources.Both b (split_from k)) (same ∙ max-is)
          ∙ ap (sources_by copying (split_from max) b) (sym (eq-eqb b max (same ∙ max-is)))
          ∙ ap (λ (t : Bool). sources_by (cond t copying (cond (eqb (old_flags s) 66) clearing idle)) (split_from max) b (eqb b max))
          (sym (eq-eqb (new_flags s) 18 (sym flags-are ∙ q)))
          ∙ ap (λ (k : ℕ). sources_by (decode s).job (split_from max) k (eqb k max)) bucket-is
