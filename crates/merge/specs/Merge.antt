-- Lists of entries, told apart by numbers, that are merged: which of them has the least first entry, and what is left
-- when it is taken.
use Rattle.std.specs.Prelude.{◌≡◌, ◌≢◌, Bool, true, false, not, List, [], ◌∷◌, ℕ, ◌<◌}
use Rattle.lists.specs.Lists.{bind, up_from}
use Rattle.page.specs.declared.Entry.{Entry}
use Rattle.page.specs.Pair.{before}

-- the first entry of one list stands no later than that of another; every list leads an empty one
abbrev pub leads : List Entry → List Entry → Bool
leads xs [] = true
leads [] (y ∷ ys) = false
leads (x ∷ xs) (y ∷ ys) = not (before y.pair x.pair)

module _ (f : ℕ → List Entry) where
  -- the n lists from list i on, joined
  abbrev pub joined : (i n : ℕ) → List Entry
  joined i n = bind (up_from i n) f

  -- of the first n lists, list j leads
  pub record Best (n j : ℕ) : Type 0 where
    pub upto : j < n
    pub first : (i : ℕ) → i < n → leads (f j) (f i) ≡ true

  -- list j without its first entry e, and the others as they are
  pub record Taken (g : ℕ → List Entry) (j : ℕ) (e : Entry) : Type 0 where
    pub here : f j ≡ e ∷ g j
    pub other : (i : ℕ) → i ≢ j → f i ≡ g i
