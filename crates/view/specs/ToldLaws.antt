-- What the key and the tail of a page tell of the first entry that is left of it.
use Rattle.std.specs.Prelude.{List, ℕ, ◌≤◌, ◌<◌, get_or}
use Rattle.std.proofs.Common.{arith}
use Rattle.merge.specs.Heads.{no_key, Merging}
use Rattle.merge.specs.MergingLaws.{merging-upto, first-left, next-few, next-pair, next-offset, next_fits}
use Rattle.view.specs.Left.{Told}

-- the key and the tail of the page at node 1 tell its first entry
module _ {s ks : List ℕ} {m : ℕ} {keys tails tree : List ℕ} (merging : Merging s ks m keys tails tree)
    (some : 1 ≤ m) where
  pub merging-told : get_or keys (get_or tree 1 0) 0 < no_key
      → Told s (get_or ks (get_or tree 1 0) 0) (get_or keys (get_or tree 1 0) 0) (get_or tails (get_or tree 1 0) 0)
  merging-told more =
      let first = first-left merging some more in
      record {
        inside = merging.pages.inside (get_or tree 1 0) (merging-upto merging some);
        slot = omega (arith, next-few merging some more);
        fits = omega (arith, next-offset merging some _ _ first, (next_fits merging some _ _ first).offset);
        pair = next-pair merging some _ _ first;
      }
