-- The pairs of a hash code among entries, page by page.
use Rattle.std.specs.Prelude.{◌≡◌, Bool, cond, ℕ, length}
use Rattle.std.proofs.Math.Path.{ap}
use Rattle.std.proofs.Common.{◌∙◌}
use Rattle.std.proofs.Math.Bool.{true, false}
use mathlib.Core.List.{List, [], ◌∷◌, ◌++◌, map, map-append}
use Rattle.std.proofs.Math.ListN.{length-map}
use Rattle.lists.specs.Lists.{tally, keep, Each}
use Rattle.lists.specs.ListsLaws.{keep_append, length-keep}
use Rattle.page.specs.declared.Pair.{Pair}
use Rattle.page.specs.declared.Entry.{Entry}
use Rattle.page.specs.Pair.{pair_of}
use Rattle.page.specs.SublistLaws.{keep-none}
use Rattle.chain.specs.Pairs.{is_match, pairs_in}

-- ---- among entries

module _ (h : ℕ) (fresh : Bool) where
  pub pairs-append : (es fs : List Entry) → pairs_in h fresh (es ++ fs) ≡ pairs_in h fresh es ++ pairs_in h fresh fs
  unfolding pairs_in
  pairs-append es fs =
      ap (map pair_of) (keep_append (is_match h fresh) es fs)
      ∙ map-append pair_of (keep (is_match h fresh) es) (keep (is_match h fresh) fs)

  pub pairs-none : (es : List Entry) → Each (λ e. is_match h fresh e ≡ false) es → pairs_in h fresh es ≡ []
  unfolding pairs_in
  pairs-none es k = ap (map pair_of) (keep-none (is_match h fresh) es k)

  pub length_pairs : (es : List Entry) → length (pairs_in h fresh es) ≡ tally (is_match h fresh) es
  unfolding pairs_in
  length_pairs es = length-map (keep (is_match h fresh) es) pair_of ∙ length-keep (is_match h fresh) es

  pub each-pairs : (P : Pair → Type 0) (es : List Entry) → Each (λ e. P e.pair) es → Each P (pairs_in h fresh es)
  unfolding pairs_in
  each-pairs P [] k = tt
  each-pairs P (e ∷ es) k = go (is_match h fresh e) (each-pairs P es k.1)
    where
      go : (b : Bool) → Each P (map pair_of (keep (is_match h fresh) es))
          → Each P (map pair_of (cond b (e ∷ keep (is_match h fresh) es) (keep (is_match h fresh) es)))
      go true ih = (k.0, ih)
      go false ih = ih
