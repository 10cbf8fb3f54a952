-- Walks of the sources of a hash code: what searches along them ask, the matches, and a pair's held entry.
use Rattle.std.specs.Prelude.{◌≡◌, Bool, ℕ, suc, ◌+◌, ◌≤◌, ◌<◌, length, take}
use Rattle.std.specs.Option.{option_or}
use Rattle.std.proofs.Math.Path.{refl, ap, ap₂}
use Rattle.std.proofs.Common.{sym, ◌∙◌, subst, arith}
use Rattle.std.proofs.Math.Bool.{true, false}
use mathlib.Core.List.{List, ◌++◌, append-nil}
use Rattle.std.proofs.lemmas.List.{length-map}
use Rattle.lists.specs.Lists.{bind}
use Rattle.address.specs.Limits.{max_blocks}
use Rattle.address.specs.MaskLaws.{split-lt}
use Rattle.page.specs.declared.Pair.{Pair}
use Rattle.page.specs.declared.Entry.{Entry}
use Rattle.model.specs.Index.{Page, Index, chain}
use Rattle.model.specs.Held.{sorted, matches}
use Rattle.model.specs.WellFormed.{Laid}
use Rattle.model.specs.SortedLaws.{length-sorted}
use Rattle.model.proofs.BoundLaws.{laid-room, bits-le}
use Rattle.image.specs.declared.Meta.{Meta}
use Rattle.image.specs.Decode.{block_of, decode}
use Rattle.image.proofs.BoundLaws.{one-part, two-parts}
use Rattle.frame.specs.Frame.{block_of_bit, chain_blocks}
use Rattle.chain.specs.Walk.{Walked}
use Rattle.chain.specs.Within.{entries_on, PagesOk, Within}
use Rattle.chain.specs.WithinLaws.{within_none}
use Rattle.chain.specs.Search.{find_in}
use Rattle.chain.specs.Pairs.{pairs_in}
use Rattle.chain.specs.Along.{pairs_along, find_along}
use Rattle.view.specs.declared.Sources.{Sources}
use Rattle.view.specs.Reads.{Reads}
use Rattle.view.specs.ReadsLaws.{reads-laid}
use Rattle.view.specs.Places.{own_blocks, old_blocks, is_both, sources_of, held_by, held_at, Sourced}
use Rattle.view.specs.ChainLaws.{entries-read, blocks-within, blocks-pages, walks-blocks, walks-count}
use Rattle.view.specs.PlacesLaws.{find-read}
use Rattle.view.specs.SourcesLaws.{sources-both, home-made, both-made}
use Rattle.view.specs.SourcePairsLaws.{pairs_by, matches-by}

module _ {s : List ℕ} {m : Meta} (r : Reads s m) (h : ℕ) where
  abbrev x : Index
  x = decode s

  -- the blocks ks are a source's
  module _ (ks : List ℕ) where
    own-walkable : (f : Sources) → sources_of x h ≡ f → ks ≡ own_blocks x f → (Within s ks) × (PagesOk s ks)
    own-walkable (Sources.Home b) e w =
        let made = home-made r h b e in (blocks-within r b made ks w, blocks-pages r b made ks w)
    own-walkable (Sources.Both new old) e w =
        let made = (both-made r h new old e).0 in (blocks-within r new made ks w, blocks-pages r new made ks w)

    old-walkable : (f : Sources) → sources_of x h ≡ f → ks ≡ old_blocks x f → (Within s ks) × (PagesOk s ks)
    old-walkable (Sources.Home b) e w =
        (subst (Within s) (sym w) (within_none s), subst (PagesOk s) (sym w) refl)
    old-walkable (Sources.Both new old) e w =
        let made = (both-made r h new old e).1 in (blocks-within r old made ks w, blocks-pages r old made ks w)

  along-by : (f : Sources) → sources_of x h ≡ f
      → pairs_along s (own_blocks x f) (old_blocks x f) h (is_both f) ≡ pairs_by x h f
  unfolding pairs_in
  along-by (Sources.Home b) e =
      append-nil (pairs_in h false (bind (chain_blocks x b (chain x b)) (entries_on s)))
      ∙ ap (pairs_in h false) (entries-read r b (home-made r h b e))
  along-by (Sources.Both new old) e =
      let made = both-made r h new old e in
      ap₂ (λ (es fs : List Entry). pairs_in h true es ++ pairs_in h false fs)
      (entries-read r new made.0) (entries-read r old made.1)

  find-by : (p : Pair) (f : Sources) → sources_of x h ≡ f → find_along s (own_blocks x f) (old_blocks x f) p ≡ held_by x p f
  unfolding find_in
  find-by p (Sources.Home b) e = find-read r b (home-made r h b e) p
  find-by p (Sources.Both new old) e =
      let made = both-made r h new old e in
      ap₂ option_or (find-read r old made.1 p) (find-read r new made.0 p)

  module _ {own : List ℕ} {n : ℕ} {old : List ℕ} {k : ℕ} {fresh : Bool}
      (w : Sourced (decode s) h own n old k fresh) where
    pub sourced-own : (Within s (take n own)) × (PagesOk s (take n own))
    sourced-own = own-walkable (take n own) (sources_of x h) refl w.own-blocks

    pub sourced-old : (Within s (take k old)) × (PagesOk s (take k old))
    sourced-old = old-walkable (take k old) (sources_of x h) refl w.old-blocks

    -- an own chain has a block
    pub sourced-some : 1 ≤ n
    sourced-some = omega (arith, w.own-count, ap length w.own-blocks, some (sources_of x h))
      where
        some : (f : Sources) → 1 ≤ length (own_blocks x f)
        some (Sources.Home b) = omega arith
        some (Sources.Both new old) = omega arith

    -- the pages of two chains are different blocks, so that both fit one walk
    pub sourced-room : n + k ≤ suc max_blocks
    sourced-room =
        omega (
          arith,
          w.own-count,
          ap length w.own-blocks,
          w.old-count,
          ap length w.old-blocks,
          room (sources_of x h) refl,
        )
      where
        size : (b : ℕ) → length (chain_blocks x b (chain x b)) ≡ suc (length (chain x b).more)
        size b = ap suc (length-map (chain x b).more (λ (g : Page). block_of_bit x g.bit))

        laid : Laid x
        laid = reads-laid r

        room : (f : Sources) → sources_of x h ≡ f → length (own_blocks x f) + length (old_blocks x f) ≤ suc max_blocks
        room (Sources.Home b) e =
            omega (arith, size b, one-part x.chains b, bits-le x laid, laid-room x laid, laid.size)
        room (Sources.Both new old) e =
            let i = sources-both x h new old e in
            let apart : old < new = omega (arith, i.new, i.old, split-lt x.max_bucket laid.two) in
            omega (
              arith,
              size new,
              size old,
              two-parts x.chains old new apart,
              bits-le x laid,
              laid-room x laid,
              laid.two,
              laid.size,
            )

    -- sorted, the pairs along the walks are the matches
    pub sourced-matches : sorted (pairs_along s (take n own) (take k old) h fresh) ≡ matches (decode s) h
    sourced-matches =
        ap sorted
        (ap₂ (λ (ks js : List ℕ). pairs_along s ks js h fresh) w.own-blocks w.old-blocks
        ∙ ap (pairs_along s (own_blocks x (sources_of x h)) (old_blocks x (sources_of x h)) h) w.both
        ∙ along-by (sources_of x h) refl)
        ∙ sym (matches-by x h)

    pub sourced-number : length (pairs_along s (take n own) (take k old) h fresh) ≡ length (matches (decode s) h)
    sourced-number = sym (length-sorted (pairs_along s (take n own) (take k old) h fresh)) ∙ ap length sourced-matches

    -- the pair that is found is the held one
    pub sourced-find : (p : Pair) → p.hash ≡ h → find_along s (take n own) (take k old) p ≡ held_at (decode s) p
    unfolding held_at
    sourced-find p e =
        ap₂ (λ (ks js : List ℕ). find_along s ks js p) w.own-blocks w.old-blocks
        ∙ find-by p (sources_of x h) refl
        ∙ ap (λ (g : ℕ). held_by x p (sources_of x g)) (sym e)

  -- ---- how code finds them

  pub sourced-home : (b : ℕ) → sources_of (decode s) h ≡ Sources.Home b → {own : List ℕ} {n : ℕ}
      → Walked s (block_of s b) own n → (old : List ℕ) → Sourced (decode s) h own n old 0 false
  sourced-home b e w old =
      let made = home-made r h b e in
      record {
        own-blocks = walks-blocks r b made w ∙ ap (own_blocks x) (sym e);
        own-count = walks-count r b made w;
        old-blocks = ap (old_blocks x) (sym e);
        old-count = refl;
        both = ap is_both (sym e);
      }

  pub sourced-both : (new old : ℕ) → sources_of (decode s) h ≡ Sources.Both new old → {bs : List ℕ} {n : ℕ}
      → Walked s (block_of s new) bs n → {js : List ℕ} {k : ℕ} → Walked s (block_of s old) js k
      → Sourced (decode s) h bs n js k true
  sourced-both new old e w v =
      let made = both-made r h new old e in
      record {
        own-blocks = walks-blocks r new made.0 w ∙ ap (own_blocks x) (sym e);
        own-count = walks-count r new made.0 w;
        old-blocks = walks-blocks r old made.1 v ∙ ap (old_blocks x) (sym e);
        old-count = walks-count r old made.1 v;
        both = ap is_both (sym e);
      }
