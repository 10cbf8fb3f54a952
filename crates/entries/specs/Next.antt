-- A merge under way: the entry that comes next, held against a pair by the pair's two numbers, its key (hash code and
-- reading block) and its offset.
use Rattle.std.specs.Prelude.{◌≡◌, Bool, false, cond, ◌&&◌, List, [], ◌∷◌, ℕ, ◌/◌, ◌<◌, eqb, ltb, get_or}
use Rattle.lists.specs.Lists.{any, Each}
use Rattle.page.specs.declared.Pair.{Pair}
use Rattle.page.specs.declared.Entry.{Entry}
use Rattle.page.specs.Pair.{same, before, is}
use Rattle.merge.specs.Merge.{joined}
use Rattle.merge.specs.Heads.{left_of, Merging}

-- the first entry has the pair
abbrev pub head_is : Pair → List Entry → Bool
head_is p [] = false
head_is p (e ∷ es) = same p e.pair

-- the first entry stands before the pair
abbrev pub head_before : Pair → List Entry → Bool
head_before p [] = false
head_before p (e ∷ es) = before e.pair p

module _ (keys tails tree : List ℕ) (key offset : ℕ) where
  -- the next entry has the pair
  abbrev pub next_is : Bool
  next_is = eqb (get_or keys (get_or tree 1 0) 0) key && eqb (get_or tails (get_or tree 1 0) 0 / 64) offset

  -- the next entry stands before the pair
  abbrev pub next_before : Bool
  next_before =
      cond (eqb (get_or keys (get_or tree 1 0) 0) key) (ltb (get_or tails (get_or tree 1 0) 0 / 64) offset)
      (ltb (get_or keys (get_or tree 1 0) 0) key)

-- no entry of the first n lists stands before the pair
abbrev pub NotBefore : (f : ℕ → List Entry) (n : ℕ) → Pair → Type 0
NotBefore f n p = (i : ℕ) → i < n → Each (λ y. before y.pair p ≡ false) (f i)

-- of pairs that do not stand before p, the lists g have those that the lists f have
abbrev pub Kept : (f g : ℕ → List Entry) (n : ℕ) → Pair → Type 0
Kept f g n p = (x : Pair) → before x p ≡ false → any (is x) (joined f 0 n) ≡ any (is x) (joined g 0 n)

-- all entries that stand before p are taken
pub record Passed (s ks : List ℕ) (n : ℕ) (p : Pair) (tails keys' tails' tree' : List ℕ) : Type 0 where
  pub kept : Kept (left_of s ks tails) (left_of s ks tails') n p
  pub none : NotBefore (left_of s ks tails') n p
  pub merging : Merging s ks n keys' tails' tree'
