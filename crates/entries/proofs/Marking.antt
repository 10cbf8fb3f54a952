-- The marks of copies, held against the originals in one pass over both: a turn takes the next copy, when all originals
-- that stand before it are taken.
use mathlib.Core.Path.{◌≡◌, refl, sym, ap, ap₂, ◌∙◌, subst}
use mathlib.Core.Logic.{◌≢◌}
use mathlib.Core.Bool.{Bool, true, false, ◌&&◌, beq}
use mathlib.Core.List.{List, ◌∷◌}
use Prim.Native.Nat.{ℕ, ◌+◌, ◌%◌, ◌/◌, ◌≤◌, ◌<◌}
use native.Mathlib.Omega.{arith}
use borrow.Author.Tests.{le-ltb, ne_eqb}
use lib.ListN.{get_or, drop}
use Rattle.lists.specs.Lists.{any, all}
use Rattle.lists.specs.Block.{block}
use Rattle.page.specs.declared.Pair.{Pair}
use Rattle.page.specs.declared.Entry.{Entry}
use Rattle.page.specs.Pair.{PairFits, before, is}
use Rattle.page.specs.PairLaws.{no_way, Order, less, equal, more, order}
use Rattle.page.specs.SublistLaws.{each_map}
use Rattle.page.specs.Entries.{entry_at}
use Rattle.merge.specs.Merge.{joined}
use Rattle.merge.specs.MergeLaws.{joined-each}
use Rattle.merge.specs.declared.First.{First}
use Rattle.merge.specs.declared.Merge.{Merge}
use Rattle.merge.specs.Heads.{no_key, first_at, first_of, page_at, left_of, Merging, Moved}
use Rattle.merge.specs.MergingLaws.{merging-upto, first-left, first-below, next-few}
use Rattle.entries.specs.Tests.{marked_by}
use Rattle.merge.specs.Heads.{pair_key, pair_from}
use Rattle.entries.specs.Next.{next_is, next_before, NotBefore, Kept, Passed}
use Rattle.entries.specs.TakenLaws.{all_same, taken-all, taken-kept}
use Rattle.merge.specs.MergingLaws.{next-key, next-offset, next-pair, next_fits}
use Rattle.merge.specs.KeyLaws.{from_key, from-fits}
use Rattle.entries.specs.NextLaws.{next-least, next-any, next-none, next-passed}

-- ---- entries before a pair are taken

module _ {s ks : List ℕ} {n : ℕ} {keys tails tree : List ℕ} (m : Merging s ks n keys tails tree) (some : 1 ≤ n)
    (key offset : ℕ) (below : key < no_key) (small : offset < 65536) where
  abbrev p : Pair
  p = pair_from key offset

  fits : PairFits p
  fits = from-fits key offset below small

  pub pass-end : next_before keys tails tree key offset ≡ false → NotBefore (left_of s ks tails) n (pair_from key offset)
  pass-end h = next-none m some p fits key offset (sym (from_key key offset)) refl below h

  -- there is one to take
  pub pass_below : next_before keys tails tree key offset ≡ true → get_or keys (get_or tree 1 0) 0 < no_key
  pass_below h = go (order (get_or keys (get_or tree 1 0) 0) key)
    where
      go : Order (get_or keys (get_or tree 1 0) 0) key → get_or keys (get_or tree 1 0) 0 < no_key
      go (less l) = omega (arith, l, below)
      go (equal e) = omega (arith, e, below)
      go (more l) =
          no_way h
          (rw (ne_eqb (get_or keys (get_or tree 1 0) 0) key (omega arith))
          (le-ltb (get_or keys (get_or tree 1 0) 0) key (omega arith)))

  pub pass-turn : next_before keys tails tree key offset ≡ true → (keys' tails' tree' : List ℕ)
      → Moved s ks n tree tails keys' tails' tree'
      → Kept (left_of s ks tails) (left_of s ks tails') n (pair_from key offset)
  pass-turn h keys' tails' tree' moved =
      taken-kept (left_of s ks tails) (left_of s ks tails') n moved.taken (merging-upto m some) p
      (next-passed m some p fits key offset (sym (from_key key offset)) refl below h moved.entry _
      moved.taken.here)

-- ---- the mark of the next copy

pub copy-small : {s ks : List ℕ} {n : ℕ} {keys tails tree : List ℕ} (m : Merging s ks n keys tails tree) (some : 1 ≤ n)
    → get_or keys (get_or tree 1 0) 0 < no_key → get_or tails (get_or tree 1 0) 0 / 64 < 65536
copy-small m some below =
    let first = first-left m some below in
    omega (arith, next-offset m some _ _ first, (next_fits m some _ _ first).offset)

-- copies ks, originals os
module _ {s ks os : List ℕ} {n k : ℕ} {keys tails tree : List ℕ} (m : Merging s ks n keys tails tree) (some : 1 ≤ n)
    (more : get_or keys (get_or tree 1 0) 0 < no_key) {low keys'' tails'' tree'' : List ℕ} (originals : 1 ≤ k)
    (passed : Passed s os k (pair_from (get_or keys (get_or tree 1 0) 0) (get_or tails (get_or tree 1 0) 0 / 64)) low keys''
    tails'' tree'') where
  abbrev key : ℕ
  key = get_or keys (get_or tree 1 0) 0

  abbrev offset : ℕ
  offset = get_or tails (get_or tree 1 0) 0 / 64

  abbrev e : Entry
  e = entry_at (block s (get_or ks (get_or tree 1 0) 0)) (get_or tails (get_or tree 1 0) 0 % 64)

  abbrev rest : List Entry
  rest = drop (get_or tails (get_or tree 1 0) 0 % 64 + 1) (page_at s ks (get_or tree 1 0))

  first : left_of s ks tails (get_or tree 1 0) ≡ e ∷ rest
  first = first-left m some more

  fit : PairFits e.pair
  fit = next_fits m some e rest first

  has_key : key ≡ pair_key e.pair
  has_key = next-key m some e rest first

  has-offset : offset ≡ e.pair.offset
  has-offset = next-offset m some e rest first

  is-pair : pair_from key offset ≡ e.pair
  is-pair = next-pair m some e rest first

  abbrev olds : List Entry
  olds = joined (left_of s os low) 0 k

  abbrev olds'' : List Entry
  olds'' = joined (left_of s os tails'') 0 k

  kept : (x : Pair) → before x e.pair ≡ false → any (is x) olds ≡ any (is x) olds''
  kept = subst (Kept (left_of s os low) (left_of s os tails'') k) is-pair passed.kept

  -- the copies are marked by the originals that are left as they were before
  same-marks : all (marked_by olds) (joined (left_of s ks tails) 0 n)
      ≡ all (marked_by olds'') (joined (left_of s ks tails) 0 n)
  same-marks =
      all_same (marked_by olds) (marked_by olds'') (joined (left_of s ks tails) 0 n)
      (joined-each (left_of s ks tails) (λ y. marked_by olds y ≡ marked_by olds'' y) 0 n
      (λ i l u.
      each_map (λ y. before y.pair e.pair ≡ false) (λ y. marked_by olds y ≡ marked_by olds'' y)
      (λ y h. ap (beq y.moved) (kept y.pair h)) (left_of s ks tails i)
      (next-least m some e rest first i (omega arith))))

  -- the next original tells the mark
  tail : marked_by olds'' e ≡ beq e.moved (next_is keys'' tails'' tree'' key offset)
  tail =
      ap (beq e.moved)
      (sym (next-any passed.merging originals e.pair fit key offset has_key has-offset more
      (subst (NotBefore (left_of s os tails'') k) is-pair passed.none)))

  pub turn-marked : (keys' tails' tree' : List ℕ) → Moved s ks n tree tails keys' tails' tree'
      → all (marked_by (joined (left_of s os low) 0 k)) (joined (left_of s ks tails) 0 n)
      ≡ beq (entry_at (block s (get_or ks (get_or tree 1 0) 0)) (get_or tails (get_or tree 1 0) 0 % 64)).moved
      (next_is keys'' tails'' tree'' (get_or keys (get_or tree 1 0) 0) (get_or tails (get_or tree 1 0) 0 / 64))
      && all (marked_by (joined (left_of s os tails'') 0 k)) (joined (left_of s ks tails') 0 n)
  turn-marked keys' tails' tree' moved =
      let same-entry : moved.entry ≡ e =
      ap (λ (es : List Entry). get_or es 0 e) (sym moved.taken.here ∙ first) in
      same-marks
      ∙ taken-all (left_of s ks tails) (left_of s ks tails') n moved.taken (merging-upto m some) (marked_by olds'')
      ∙ ap (λ (b : Bool). b && all (marked_by olds'') (joined (left_of s ks tails') 0 n))
      (ap (marked_by olds'') same-entry ∙ tail)

-- ---- by what `first` answers of a merge g of copies

pub copy-fits : {s ks : List ℕ} {n : ℕ} (g : Merge) (m : Merging s ks n g.keys g.tails g.tree) (some : 1 ≤ n) (f : First)
    → (f.key ≢ no_key) × (f ≡ first_of g)
    → (f.page < n) × ((f.key < no_key) × ((f.tail % 64 < 40) × (f.tail / 64 < 65536)))
copy-fits g m some f h =
    let below = first-below g m some f h in
    let page = ap (λ (x : First). x.page) h.1 in
    let key = ap (λ (x : First). x.key) h.1 in
    let tail = ap (λ (x : First). x.tail) h.1 in (
      omega (arith, page, merging-upto m some),
      (omega (arith, key, below), (omega (arith, tail, next-few m some below), omega (arith, tail, copy-small m some below))),
    )

-- a turn: g' is the merge of copies without its first entry, o and o' that of originals, before it and after it
pub turn-answer : {s ks os : List ℕ} {n k : ℕ} (g g' o o' : Merge) (m : Merging s ks n g.keys g.tails g.tree)
    (some : 1 ≤ n) (f : First) → (f.key ≢ no_key) × (f ≡ first_of g) → 1 ≤ k
    → Passed s os k (pair_from f.key (f.tail / 64)) o.tails o'.keys o'.tails o'.tree
    → Moved s ks n g.tree g.tails g'.keys g'.tails g'.tree → (whole mark next : Bool)
    → all (marked_by (joined (left_of s os o.tails) 0 k)) (joined (left_of s ks g.tails) 0 n) ≡ whole
    → mark ≡ (first_at s (get_or ks f.page 0) f.tail).moved
    → next ≡ next_is o'.keys o'.tails o'.tree f.key (f.tail / 64)
    → whole ≡ beq mark next
    && all (marked_by (joined (left_of s os o'.tails) 0 k)) (joined (left_of s ks g'.tails) 0 n)
turn-answer {s} {ks} {os} {n} {k} g g' o o' m some f h originals passed moved whole mark next answer marks is =
    let e = marks ∙ ap (λ (x : First). (first_at s (get_or ks x.page 0) x.tail).moved) h.1 in
    let i = is ∙ ap (λ (x : First). next_is o'.keys o'.tails o'.tree x.key (x.tail / 64)) h.1 in
    sym answer
    ∙ turn-marked m some (first-below g m some f h) originals
    (subst (λ (x : First). Passed s os k (pair_from x.key (x.tail / 64)) o.tails o'.keys o'.tails o'.tree) h.1 passed)
    g'.keys g'.tails g'.tree moved
    ∙ ap₂ (λ (x y : Bool). beq x y
    && all (marked_by (joined (left_of s os o'.tails) 0 k)) (joined (left_of s ks g'.tails) 0 n)) (sym e) (sym i)
