-- The pairs of a hash code in its sources: the matches, before they are sorted.
use Rattle.std.specs.Prelude.{◌≡◌, refl, Bool, true, false, cond, ◌&&◌, List, [], ◌∷◌, ◌++◌, map, ℕ}
use Rattle.std.proofs.Math.Path.{ap}
use Rattle.std.proofs.Common.{ap₂, ◌∙◌}
use Rattle.std.proofs.Math.Bool.{not}
use Rattle.std.proofs.lemmas.List.{map-append}
use Rattle.std.proofs.Math.Dec.{eqb}
use Rattle.lists.specs.Lists.{keep}
use Rattle.lists.specs.ListsLaws.{keep_append}
use Rattle.page.specs.declared.Pair.{Pair}
use Rattle.page.specs.declared.Entry.{Entry}
use Rattle.page.specs.Pair.{pair_of}
use Rattle.model.specs.Index.{Index, entries_at}
use Rattle.model.specs.Held.{sources, sorted, has_hash, matches}
use Rattle.chain.specs.Pairs.{pairs_in}
use Rattle.view.specs.declared.Sources.{Sources}
use Rattle.view.specs.Places.{sources_of}
use Rattle.view.specs.SourcesLaws.{entries_by, sources-by}

module _ {A : Type 0} where
  keep-keep : (s t : A → Bool) (xs : List A) → keep s (keep t xs) ≡ keep (λ x. t x && s x) xs
  keep-keep s t [] = refl
  keep-keep s t (x ∷ xs) = go (t x) (keep-keep s t xs)
    where
      go : (b : Bool) → keep s (keep t xs) ≡ keep (λ y. t y && s y) xs
          → keep s (cond b (x ∷ keep t xs) (keep t xs))
          ≡ cond (b && s x) (x ∷ keep (λ y. t y && s y) xs) (keep (λ y. t y && s y) xs)
      go true ih = ap (λ (l : List A). cond (s x) (x ∷ l) l) ih
      go false ih = ih

keep-map : {A B : Type 0} (f : A → B) (t : B → Bool) (xs : List A) → keep t (map f xs) ≡ map f (keep (λ x. t (f x)) xs)
keep-map f t [] = refl
keep-map f t (x ∷ xs) = go (t (f x)) (keep-map f t xs)
  where
    go : (b : Bool) → keep t (map f xs) ≡ map f (keep (λ y. t (f y)) xs)
        → cond b (f x ∷ keep t (map f xs)) (keep t (map f xs))
        ≡ map f (cond b (x ∷ keep (λ y. t (f y)) xs) (keep (λ y. t (f y)) xs))
    go true ih = ap (λ (l : List _). f x ∷ l) ih
    go false ih = ih

-- ---- among the sources

-- the pairs of a hash code in the sources
abbrev pub pairs_by : Index → (hash : ℕ) → Sources → List Pair
pairs_by x h (Sources.Home b) = pairs_in h false (entries_at x b)
pairs_by x h (Sources.Both new old) = pairs_in h true (entries_at x new) ++ pairs_in h false (entries_at x old)

module _ (x : Index) (h : ℕ) where
  all-pairs : (es : List Entry) → keep (has_hash h) (map pair_of es) ≡ pairs_in h false es
  unfolding pairs_in
  all-pairs es = keep-map pair_of (has_hash h) es

  fresh-pairs : (es : List Entry) → keep (has_hash h) (map pair_of (keep (λ e. not e.moved) es)) ≡ pairs_in h true es
  unfolding pairs_in
  fresh-pairs es =
      keep-map pair_of (has_hash h) (keep (λ e. not e.moved) es)
      ∙ ap (map pair_of) (keep-keep (λ (e : Entry). eqb e.pair.hash h) (λ e. not e.moved) es)

  found-pairs : (f : Sources) → keep (has_hash h) (map pair_of (entries_by x f)) ≡ pairs_by x h f
  found-pairs (Sources.Home b) = all-pairs (entries_at x b)
  found-pairs (Sources.Both new old) =
      let es : List Entry = keep (λ e. not e.moved) (entries_at x new) in
      ap (keep (has_hash h)) (map-append pair_of es (entries_at x old))
      ∙ keep_append (has_hash h) (map pair_of es) (map pair_of (entries_at x old))
      ∙ ap₂ ◌++◌ (fresh-pairs (entries_at x new)) (all-pairs (entries_at x old))

  abbrev found : List Pair
  found = keep (has_hash h) (map pair_of (sources x h))

  sources-pairs : found ≡ pairs_by x h (sources_of x h)
  sources-pairs =
      ap (λ (es : List Entry). keep (has_hash h) (map pair_of es)) (sources-by x h) ∙ found-pairs (sources_of x h)

  pub matches-by : matches x h ≡ sorted (pairs_by x h (sources_of x h))
  unfolding matches
  matches-by = ap sorted sources-pairs
