-- Where `binary_search` finds a number among a change's, or would put it.
use Rattle.std.proofs.Common.{◌≡◌, ◌∙◌, sym, ap, ℕ, List, ◌≤◌, ◌<◌, length, get_or, take, arith}
use Rattle.std.specs.Prelude.{Result, Ok, Err}
use Rattle.std.specs.Result.{MatchResult}
use Rattle.std.specs.Ordering.{nat_cmp}
use Rattle.std.specs.List.Sorted.{IsBinarySearchResult}
use Rattle.std.proofs.lemmas.List.Sorted.{searched}
use Rattle.std.proofs.Math.Decide.{ℕ_discrete}
use Rattle.std.proofs.Math.Seq.{get_or-take, length-take-le}
use Rattle.store.specs.Change.{Fits}
use Rattle.draft.specs.Open.{PlaceOf}

pub place-found : (s xs : List ℕ) (n k : ℕ) (r : Result ℕ ℕ) → Fits s xs n → n ≤ length xs
    → IsBinarySearchResult (λ y. nat_cmp y k) (take n xs) r → PlaceOf xs n k r
place-found s xs n k r fits le found =
    go r (searched (take n xs) k r found (λ i j l h. rising i j l (omega (arith, len))))
  where
    len : length (take n xs) ≡ n
    len = length-take-le n xs le

    at : (j : ℕ) → j < n → get_or (take n xs) j 0 ≡ get_or xs j 0
    at j h = get_or-take n xs j 0 h

    rising : (i j : ℕ) → i ≤ j → j < n → get_or (take n xs) i 0 ≤ get_or (take n xs) j 0
    rising i j l h = either (ℕ_discrete i j)
      where
        either : Dec (i ≡ j) → get_or (take n xs) i 0 ≤ get_or (take n xs) j 0
        either (yes e) = omega (arith, ap (λ (m : ℕ). get_or (take n xs) m 0) e)
        either (no ne) =
            omega (arith, at i (omega arith), at j h, fits.ascending i j (omega arith) h)

    go : (r : Result ℕ ℕ) → MatchResult r (λ i. (i < length (take n xs)) × (get_or (take n xs) i 0 ≡ k))
        (λ i. (i ≤ length (take n xs)) × ((j : ℕ) → j < i → get_or (take n xs) j 0 < k)
        × ((j : ℕ) → i ≤ j → j < length (take n xs) → k < get_or (take n xs) j 0)) → PlaceOf xs n k r
    go (Ok i) w =
        let h : i < n = omega (arith, len, w.0) in
        (h, sym (at i h) ∙ w.1)
    go (Err i) w = (
      omega (arith, len, w.0),
      λ j h. omega (arith, at j (omega (arith, len, w.0)), w.1 j h),
      λ h. omega (arith, at i h, w.2 i (omega arith) (omega (arith, len))),
    )
