-- A block is opened: its number listed at its place, its image beside it.
use Rattle.std.specs.Prelude.{◌≡◌, Result, Ok, Err, List, ℕ, ◌+◌, ◌≤◌, ◌<◌, get_or}
use Rattle.store.specs.declared.Change.{Change}
use Rattle.draft.specs.Draft.{Draft, Lists}

-- where k stands among the first n numbers, or would stand
abbrev pub PlaceOf : List ℕ → (n k : ℕ) → Result ℕ ℕ → Type 0
PlaceOf numbers n k (Ok at) = (at < n) × (get_or numbers at 0 ≡ k)
PlaceOf numbers n k (Err at) =
    (at ≤ n) × ((j : ℕ) → j < at → get_or numbers j 0 < k) × (at < n → k < get_or numbers at 0)

-- g is f with the elements from at up to n moved up by one
pub record Shifted {A : Type 0} (at n : ℕ) (f g : ℕ → A) : Type 0 where
  pub before : (j : ℕ) → j ≤ at → g j ≡ f j
  pub after : (j : ℕ) → at ≤ j → j < n → g (j + 1) ≡ f j

-- g is f with x put in at place at, before the elements from at up to n
pub record Inserted {A : Type 0} (at n : ℕ) (x : A) (f g : ℕ → A) : Type 0 where
  pub before : (j : ℕ) → j < at → g j ≡ f j
  pub here : g at ≡ x
  pub after : (j : ℕ) → at ≤ j → j < n → g (j + 1) ≡ f j

-- block k has its image at place at; the draft is as it was
pub record Opens (s : List ℕ) (c : Change) (images : List ℕ) (k at : ℕ) (r : Change) (images' : List ℕ) : Type 0 where
  pub lists : Lists c k r
  pub inside : at < r.count
  pub names : get_or r.numbers at 0 ≡ k
  pub draft : (d : List ℕ) → Draft s c images d → Draft s r images' d
