-- No pair twice in the pages of a merge: a turn takes the next entry, and looks whether the one after it has its pair.
use mathlib.Core.Path.{◌≡◌, refl, sym, ap, ◌∙◌}
use mathlib.Core.Logic.{◌≢◌}
use mathlib.Core.Bool.{Bool, true, false, not, ◌&&◌}
use mathlib.Core.List.{List, [], ◌∷◌, append-nil}
use Prim.Native.Nat.{ℕ, ◌/◌, ◌≤◌, ◌<◌}
use native.Mathlib.Omega.{arith}
use lib.ListN.{length, get_or}
use Rattle.lists.specs.Lists.{any, bind}
use Rattle.page.specs.declared.Entry.{Entry}
use Rattle.page.specs.Pair.{before, is}
use Rattle.page.specs.Rule.{order_ok}
use Rattle.image.specs.Rules.{distinct}
use Rattle.chain.specs.Within.{entries_on, PagesOk, Within}
use Rattle.merge.specs.Merge.{joined}
use Rattle.merge.specs.MergeLaws.{taken-each}
use Rattle.merge.specs.declared.First.{First}
use Rattle.merge.specs.declared.Merge.{Merge}
use Rattle.merge.specs.Heads.{no_key, first_of, left_of, Merging, Moved}
use Rattle.merge.specs.MergingLaws.{merging-upto, first-below}
use Rattle.entries.specs.Next.{next_is}
use Rattle.entries.specs.TakenLaws.{ascending-distinct, taken-distinct}
use Rattle.merge.specs.MergingLaws.{next-key, next-offset, next_fits}
use Rattle.chain.specs.WithinLaws.{block-sorted}
use Rattle.entries.specs.NextLaws.{next-least, next-any}

-- a walk of one page, or none
pub one-page : (s walk : List ℕ) → Within s walk → PagesOk s walk → length walk ≤ 1
    → distinct (bind walk (entries_on s)) ≡ true
unfolding order_ok
one-page s [] ok pages few = refl
one-page s (b ∷ []) ok pages few =
    ap distinct (append-nil (entries_on s b))
    ∙ ascending-distinct (entries_on s b) (block-sorted ok 0 (omega arith) pages).order
one-page s (b ∷ c ∷ walk) ok pages few = absurd (omega arith)

module _ {s ks : List ℕ} {n : ℕ} {keys tails tree keys' tails' tree' : List ℕ} (m : Merging s ks n keys tails tree)
    (some : 1 ≤ n) (more : get_or keys (get_or tree 1 0) 0 < no_key)
    (moved : Moved s ks n tree tails keys' tails' tree') where
  abbrev e : Entry
  e = moved.entry

  abbrev key : ℕ
  key = get_or keys (get_or tree 1 0) 0

  abbrev offset : ℕ
  offset = get_or tails (get_or tree 1 0) 0 / 64

  again : next_is keys' tails' tree' key offset ≡ any (is e.pair) (joined (left_of s ks tails') 0 n)
  again =
      let first = moved.taken.here in
      next-any moved.merging some e.pair (next_fits m some e _ first) key offset (next-key m some e _ first)
      (next-offset m some e _ first) more
      (λ i h.
      taken-each (left_of s ks tails) (left_of s ks tails') moved.taken (λ y. before y.pair e.pair ≡ false) i
      (next-least m some e _ first i h))

  pub turn-distinct : distinct (joined (left_of s ks tails) 0 n)
      ≡ not (next_is keys' tails' tree' (get_or keys (get_or tree 1 0) 0) (get_or tails (get_or tree 1 0) 0 / 64))
      && distinct (joined (left_of s ks tails') 0 n)
  turn-distinct =
      taken-distinct (left_of s ks tails) (left_of s ks tails') n moved.taken (merging-upto m some)
      ∙ ap (λ (b : Bool). not b && distinct (joined (left_of s ks tails') 0 n)) (sym again)

-- a turn, by what the walk over the merge answers: g' is the merge g without its first entry
pub turn-answer : {s ks : List ℕ} {n : ℕ} (g g' : Merge) (m : Merging s ks n g.keys g.tails g.tree) (some : 1 ≤ n)
    (f : First) → (f.key ≢ no_key) × (f ≡ first_of g) → Moved s ks n g.tree g.tails g'.keys g'.tails g'.tree
    → (whole again : Bool) → distinct (joined (left_of s ks g.tails) 0 n) ≡ whole
    → again ≡ next_is g'.keys g'.tails g'.tree f.key (f.tail / 64)
    → whole ≡ not again && distinct (joined (left_of s ks g'.tails) 0 n)
turn-answer {s} {ks} {n} g g' m some f h moved whole again answer next =
    let e : again ≡ next_is g'.keys g'.tails g'.tree (get_or g.keys (get_or g.tree 1 0) 0)
    (get_or g.tails (get_or g.tree 1 0) 0 / 64) =
    next ∙ ap (λ (x : First). next_is g'.keys g'.tails g'.tree x.key (x.tail / 64)) h.1 in
    sym answer ∙ turn-distinct m some (first-below g m some f h) moved
    ∙ ap (λ (b : Bool). not b && distinct (joined (left_of s ks g'.tails) 0 n)) (sym e)
