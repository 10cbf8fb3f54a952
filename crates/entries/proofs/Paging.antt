-- Rule 5 from bucket to bucket: a chain's pages, and no pair twice in it.
use mathlib.Core.Path.{◌≡◌, sym, ap, ◌∙◌}
use mathlib.Core.Bool.{Bool, true, false, ◌&&◌}
use mathlib.Core.List.{List, ◌∷◌}
use Prim.Native.Nat.{ℕ, suc, ◌≤◌}
use lib.ListN.{take}
use Rattle.lists.specs.Lists.{all, bind}
use Rattle.lists.specs.Block.{block}
use Rattle.page.specs.Rule.{page_ok}
use Rattle.model.specs.Index.{entries_at}
use Rattle.image.specs.Decode.{max_at, block_of, trail, decode}
use Rattle.image.specs.Rules.{distinct, buckets, rule5}
use Rattle.chain.specs.Walk.{Walked}
use Rattle.chain.specs.Within.{entries_on}
use Rattle.shape.specs.LoopLaws.{left, left-start, all_both}
use Rattle.entries.specs.WalkedLaws.{walk-blocks, walk-entries}

module _ (s : List ℕ) where
  abbrev pages : ℕ → Bool
  pages b = all (λ k. page_ok (block s k)) (block_of s b ∷ trail s b)

  abbrev apart : ℕ → Bool
  apart b = distinct (entries_at (decode s) b)

  abbrev pub paged : ℕ → Bool
  paged b = pages b && apart b

  pub paging-start : left paged (suc (max_at s)) 0 ≡ rule5 s
  unfolding rule5
  paging-start = left-start paged (suc (max_at s)) ∙ sym (all_both pages apart (buckets s))

  -- what the tests of a bucket's walk tell
  module _ (b : ℕ) (made : b ≤ max_at s) {bs : List ℕ} {n : ℕ} (held : Walked s (block_of s b) bs n) where
    abbrev fine : Bool
    fine = all (λ k. page_ok (block s k)) (take n bs)

    same-pages : pages b ≡ fine
    same-pages = ap (all (λ k. page_ok (block s k))) (sym (walk-blocks b made held))

    same-apart : apart b ≡ distinct (bind (take n bs) (entries_on s))
    same-apart = ap distinct (sym (walk-entries b made held))

    pub no-page : fine ≡ false → paged b ≡ false
    no-page h = rw (same-pages ∙ h)

    pub pair-twice : fine ≡ true → distinct (bind (take n bs) (entries_on s)) ≡ false → paged b ≡ false
    pair-twice h k = rw (same-pages ∙ h, same-apart ∙ k)

    pub all-paged : fine ≡ true → distinct (bind (take n bs) (entries_on s)) ≡ true → paged b ≡ true
    all-paged h k = rw (same-pages ∙ h, same-apart ∙ k)
