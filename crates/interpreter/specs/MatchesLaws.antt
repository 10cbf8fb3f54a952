-- How many matches a lookup can have: 5,000, where a job has more than two buckets. "enough for the 5,000 matches
-- that 128 blocks can hold"
use Rattle.std.specs.Prelude.{◌≡◌, ℕ, suc, ◌+◌, ◌*◌, ◌≤◌, Bool, true, false, not, ◌≢◌, List, [], ◌∷◌, map, length, ◌==◌, nat_eq}
use Rattle.std.proofs.Math.Path.{refl, ap}
use native.Mathlib.Omega.{arith}
use borrow.Author.Tests.{eqb-true}
use Rattle.std.proofs.Math.ListN.{length-append, length-map}
use Rattle.lists.specs.Lists.{keep, Each}
use Rattle.address.specs.Address.{bucket_of}
use Rattle.address.specs.MaskLaws.{split-lt}
use Rattle.page.specs.declared.Pair.{Pair}
use Rattle.page.specs.declared.Entry.{Entry}
use Rattle.page.specs.SublistLaws.{sublist-keep, length-sublist}
use Rattle.model.specs.Index.{Page, Chain, Job, idle, copying, clearing, Index, on_pages, entries_in, chain}
use Rattle.model.specs.Index.{entries_at, new_bucket, old_bucket}
use Rattle.model.specs.Held.{sources_in, sources, matches}
use Rattle.model.specs.WellFormed.{MoreOk, ChainOk, Laid}
use Rattle.model.specs.SortedLaws.{length-sorted}
use Rattle.model.proofs.BoundLaws.{laid-room, bits-le}
use Rattle.image.proofs.BoundLaws.{one-part, two-parts}
use Rattle.model.proofs.MachineLaws.{never}
use Rattle.interpreter.specs.Script.{script_blocks}

-- ---- entries of one chain and of two

entries-le : (c : Chain) → ChainOk c → length (entries_in c) ≤ 40 * suc (length c.more)
entries-le c o = simp length-append (omega (arith, o.first.full, go c.more o.more))
  where
    go : (gs : List Page) → Each MoreOk gs → length (on_pages gs) ≤ 40 * length gs
    go [] h = omega arith
    go (g ∷ gs) h = simp length-append (omega (arith, h.0.page.full, go gs h.1))

module _ (x : Index) (l : Laid x) (small : x.size ≤ script_blocks) where
  one-le : (b : ℕ) → length (entries_at x b) ≤ 5000
  one-le b =
      omega (
        arith,
        entries-le (chain x b) (l.pages b),
        one-part x.chains b,
        bits-le x l,
        laid-room x l,
        l.two,
      )

  two-le : 2 ≤ x.max_bucket → length (entries_at x (new_bucket x)) + length (entries_at x (old_bucket x)) ≤ 5000
  two-le h =
      omega (
        arith,
        entries-le (chain x (new_bucket x)) (l.pages (new_bucket x)),
        entries-le (chain x (old_bucket x)) (l.pages (old_bucket x)),
        two-parts x.chains (old_bucket x) (new_bucket x) (split-lt x.max_bucket l.two),
        bits-le x l,
        laid-room x l,
      )

  sources-le : (x.job ≢ idle → 2 ≤ x.max_bucket) → (h : ℕ) → length (sources x h) ≤ 5000
  unfolding sources
  sources-le k h = go x.job refl (bucket_of x.max_bucket h) (bucket_of x.max_bucket h == new_bucket x) refl
    where
      go : (j : Job) → x.job ≡ j → (b : ℕ) (t : Bool) → (b == new_bucket x) ≡ t → length (sources_in j x b t) ≤ 5000
      go idle q b t e = one-le b
      go clearing q b t e = one-le b
      go copying q b false e = one-le b
      go copying q b true e =
          let same : b ≡ new_bucket x = eqb-true b (new_bucket x) e in
          let fresh = keep (λ (y : Entry). not y.moved) (entries_at x b) in
          omega (
            arith,
            length-append fresh (entries_at x (old_bucket x)),
            length-sublist (sublist-keep (λ (y : Entry). not y.moved) (entries_at x b)),
            ap (λ (c : ℕ). length (entries_at x c)) same,
            two-le (k (λ r. never (cc))),
          )

  pub matches-few : (x.job ≢ idle → 2 ≤ x.max_bucket) → (h : ℕ) → length (matches x h) ≤ 5000
  unfolding matches
  matches-few k h =
      let ps = map (λ (e : Entry). e.pair) (sources x h) in
      omega (
        arith,
        length-sorted (keep (λ (p : Pair). nat_eq p.hash h) ps),
        length-sublist (sublist-keep (λ (p : Pair). nat_eq p.hash h) ps),
        length-map (sources x h) (λ (e : Entry). e.pair),
        sources-le k h,
      )
