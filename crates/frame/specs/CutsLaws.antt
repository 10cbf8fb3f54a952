-- The two cuts of a removal while copying: the old bucket's, and then the new one's.
use Rattle.std.specs.Prelude.{◌≡◌, ◌≢◌, Bool, true, false, ◌||◌, List, ◌∷◌, ◌++◌, ℕ, suc, ◌≤◌, ◌<◌, length}
use Rattle.std.proofs.Common.{sym, ◌∙◌, subst, arith}
use Rattle.std.proofs.Math.Decide.{dec_le}
use Rattle.std.proofs.Math.ListN.{length-set, get_or-eq_default}
use Rattle.std.proofs.lemmas.List.{length-map}
use Rattle.lists.specs.Lists.{tally}
use Rattle.lists.specs.ListsLaws.{each_append}
use Rattle.page.specs.declared.Pair.{Pair}
use Rattle.page.specs.Pair.{is}
use Rattle.model.specs.Index.{Page, Chain, Index, entries_in, chain, entries_at, new_bucket, old_bucket}
use Rattle.model.specs.Pages.{without, cut}
use Rattle.model.specs.WellFormed.{Laid, WF}
use Rattle.model.specs.StandLaws.{chain-there}
use Rattle.model.proofs.HeldLaws.{old-new, old-range, new-range}
use Rattle.model.proofs.LaidLaws.{cut-laid}
use Rattle.image.specs.Layout.{encode_block}
use Rattle.store.specs.Flags.{no_link}
use Rattle.frame.specs.Frame.{Apart, block_of_bit, chain_blocks, more_place, pair_place, frees, frees_at, page_block}
use Rattle.frame.specs.Frame.{map_blocks, pair_blocks, cut_blocks, cuts_blocks}
use Rattle.frame.specs.RemoveLaws.{stands-once, frame-cut}
use Rattle.lists.specs.TestLaws.{each_left, each_right}
use Rattle.frame.specs.ImagesLaws.{page-inside}
use Rattle.frame.specs.ApartLaws.{page-same, page-meta, page-map}

module _ (x : Index) (w : WF x) (p : Pair) where
  abbrev n : ℕ
  n = new_bucket x

  abbrev o : ℕ
  o = old_bucket x

  abbrev z : Index
  z = cut p (old_bucket x) x

  -- the index between the two cuts
  pub laid-between : Laid (cut p (old_bucket x) x)
  laid-between = cut-laid x w.laid o (old-range x w.laid) p

  pub new-between : chain (cut p (old_bucket x) x) (new_bucket x) ≡ chain x (new_bucket x)
  unfolding cut
  new-between =
      chain-there x x.spares o (without p (chain x o)) (old-range x w.laid) n (λ q. old-new x w.laid (sym q))

  pub range-between : new_bucket x < length (cut p (old_bucket x) x).chains
  unfolding cut
  range-between = omega (arith, length-set x.chains o (without p (chain x o)), new-range x w.laid)

  pub once-between : tally (is p) (entries_at (cut p (old_bucket x) x) (new_bucket x)) ≤ 1
  once-between = subst (λ (c : Chain). tally (is p) (entries_in c) ≤ 1) (sym new-between) (stands-once x w p n)

  -- blocks apart from those of the second cut
  abbrev cut_of : Chain → List ℕ
  cut_of c = 0 ∷ map_blocks (frees p c.more) x ++ pair_blocks (frees p c.more) x n c p

  between : (k : ℕ) → Apart k (cut_blocks x (new_bucket x) p)
      → encode_block (cut p (new_bucket x) (cut p (old_bucket x) x)) k
      ≡ encode_block (cut p (old_bucket x) x) k
  unfolding cut
  between k a =
      frame-cut z laid-between n range-between p once-between k
      (subst (λ (c : Chain). Apart k (cut_of c)) (sym new-between) a)

  pub frame-cuts : (k : ℕ) → Apart k (cuts_blocks x p)
      → encode_block (cut p (new_bucket x) (cut p (old_bucket x) x)) k ≡ encode_block x k
  frame-cuts k a =
      between k (
        a.0,
        each_append Off (map_blocks fn x) _ (right fo fn maps)
            (each_right Off (pair_blocks fo x o (chain x o) p) _ pairs),
      )
      ∙ frame-cut x w.laid o (old-range x w.laid) p (stands-once x w p o) k (
        a.0,
        each_append Off (map_blocks fo x) _ (left fo fn maps)
            (each_left Off (pair_blocks fo x o (chain x o) p) _ pairs),
      )
    where
      fo : Bool
      fo = frees_at x (old_bucket x) p

      fn : Bool
      fn = frees_at x (new_bucket x) p

      Off : ℕ → Type 0
      Off j = k ≢ j

      maps : Apart k (map_blocks (frees_at x (old_bucket x) p || frees_at x (new_bucket x) p) x)
      maps = each_left Off (map_blocks (fo || fn) x) _ a.1

      pairs : Apart k (pair_blocks fo x o (chain x o) p ++ pair_blocks fn x n (chain x n) p)
      pairs = each_right Off (map_blocks (fo || fn) x) _ a.1

      left : (f g : Bool) → Apart k (map_blocks (f || g) x) → Apart k (map_blocks f x)
      left true g h = h
      left false g h = tt

      right : (f g : Bool) → Apart k (map_blocks (f || g) x) → Apart k (map_blocks g x)
      right true true h = h
      right true false h = tt
      right false g h = h

  -- the second cut leaves the old bucket's pages as the first one left them
  pub old-between : (i : ℕ) → i ≤ length (chain x (old_bucket x)).more
      → encode_block (cut p (new_bucket x) (cut p (old_bucket x) x)) (page_block x (old_bucket x) i)
      ≡ encode_block (cut p (old_bucket x) x) (page_block x (old_bucket x) i)
  old-between i h = between k (page-meta x w.laid o i h, each_append Off (map_blocks f x) _ (maps f) (pairs f))
    where
      k : ℕ
      k = page_block x (old_bucket x) i

      f : Bool
      f = frees_at x (new_bucket x) p

      Off : ℕ → Type 0
      Off j = page_block x (old_bucket x) i ≢ j

      low : old_bucket x ≤ x.max_bucket
      low = omega (arith, old-range x w.laid, w.laid.whole)

      off : (j : ℕ) → page_block x (old_bucket x) i ≢ page_block x (new_bucket x) j
      off j e = go (dec_le j (length (chain x n).more))
        where
          go : Dec (j ≤ length (chain x (new_bucket x)).more) → ⊥
          go (yes q) = old-new x w.laid (page-same x w.laid o i n j low h (omega arith) q e).0
          go (no q) =
              omega (
                arith,
                e,
                w.laid.size,
                page-inside x w.laid o i low h,
                get_or-eq_default (chain_blocks x n (chain x n)) no_link {n = j}
                    (omega (arith, length-map (chain x n).more (λ (g : Page). block_of_bit x g.bit))),
              )

      maps : (f : Bool) → Apart (page_block x (old_bucket x) i) (map_blocks f x)
      maps true = (page-map x w.laid o i low h, tt)
      maps false = tt

      pairs : (f : Bool) → Apart (page_block x (old_bucket x) i) (pair_blocks f x (new_bucket x) (chain x (new_bucket x)) p)
      pairs true = let j = more_place p (chain x n).more in (off j, (off (suc j), (off (suc (suc j)), tt)))
      pairs false = (off (pair_place p (chain x n)), tt)
