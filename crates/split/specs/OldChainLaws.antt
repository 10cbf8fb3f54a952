-- The chain that a loop follows by the next fields: the block at index i leads to the one at i + 1, or the chain ends.
use Rattle.std.specs.Prelude.{◌≡◌, ◌≢◌, Bool, true, false, List, [], ◌∷◌, ◌++◌, ℕ, pred, ◌+◌, ◌*◌, ◌≤◌, ◌<◌, length, get_or, take, drop}
use Rattle.std.proofs.Common.{sym, ap, ◌∙◌, subst, append-nil, add-one, arith, take-append-drop, length-append, take-suc}
use Rattle.std.proofs.Math.Decide.{dec_lt}
use Rattle.lists.specs.Lists.{tally, find, bind, any}
use Rattle.lists.specs.ListsLaws.{bind-append, tally-le, any-no, zero-any, find-no}
use Rattle.lists.specs.Block.{blocks, block}
use Rattle.page.specs.declared.Pair.{Pair}
use Rattle.page.specs.declared.Entry.{Entry}
use Rattle.page.specs.Pair.{is}
use Rattle.page.specs.Allowed.{Sorted}
use Rattle.page.specs.Entries.{entries_of}
use Rattle.page.specs.EntriesLaws.{length-entries_of}
use Rattle.page.proofs.RuleLaws.{number-le}
use Rattle.model.specs.Index.{chain, entries_at}
use Rattle.store.specs.Store.{next_at}
use Rattle.store.specs.Flags.{no_link}
use Rattle.image.specs.declared.Meta.{Meta}
use Rattle.image.specs.Decode.{block_of, decode}
use Rattle.frame.specs.Frame.{chain_blocks}
use Rattle.frame.specs.ListsLaws.{find-zero, find-right}
use Rattle.chain.specs.Walk.{walk}
use Rattle.chain.specs.WalkLaws.{walk-next, walk-link, walk-last}
use Rattle.chain.specs.Search.{pair_on, find_in}
use Rattle.chain.specs.Within.{entries_on, PagesOk, Within, PageOn}
use Rattle.chain.specs.WithinLaws.{block_inside, block-whole, block-page}
use Rattle.chain.specs.FindLaws.{any-bind}
use Rattle.view.specs.Reads.{Reads}
use Rattle.view.specs.ChainLaws.{walk-read, walk-bounded, blocks-within, pages-read, entries-read}
use Rattle.view.specs.Places.{find_at}
use Rattle.view.specs.PlacesLaws.{find-read}
use Rattle.split.specs.Seek.{Before}
use Rattle.split.specs.SeekLaws.{before-left, before-all}

-- ---- the pages of a chain whose blocks ks are in no array

module _ {s ks : List ℕ} (ok : Within s ks) {i k : ℕ} (inside : i < length ks) (at : k ≡ get_or ks i 0) where
  pub chain-page : {l : List ℕ} → l ≡ block s k → PageOn s ks i l
  chain-page e = block-page ok i inside (e ∙ ap (block s) at)

  pub chain-inside : k < blocks s
  chain-inside = omega (arith, at, block_inside ok i inside)

  pub chain-whole : 512 * k + 512 ≤ length s
  chain-whole = omega (arith, at, block-whole ok i inside)

module _ {s ks : List ℕ} {i : ℕ} {l : List ℕ} (on : PageOn s ks i l) (pages : PagesOk s ks) where
  pub chain-sorted : Sorted l
  chain-sorted = on.sorted pages

  -- a page has at most 40 entries
  pub chain-few : length (entries_of l) ≤ 40
  chain-few = omega (arith, length-entries_of l, number-le l chain-sorted.number)

-- ---- the block after the one at index i

module _ {s : List ℕ} (first : ℕ) {i : ℕ} {l : List ℕ} (on : PageOn s (walk s first) i l)
    (inside : i < length (walk s first)) {next : ℕ} (read : next ≡ next_at l) where
  leads : next ≡ next_at (block s (get_or (walk s first) i 0))
  leads = read ∙ ap next_at on.page

  -- the last block of a chain leads nowhere
  pub link-inside : length (walk s first) ≤ blocks s → next ≢ no_link → i + 1 < length (walk s first)
  link-inside short more = go (dec_lt (i + 1) (length (walk s first)))
    where
      go : Dec (i + 1 < length (walk s first)) → i + 1 < length (walk s first)
      go (yes h) = h
      go (no h) =
          let e : i ≡ pred (length (walk s first)) = omega arith in
          absurd (more (leads ∙ ap (λ (j : ℕ). next_at (block s (get_or (walk s first) j 0))) e ∙ walk-last s first short))

  pub link-next : i + 1 < length (walk s first) → next ≡ get_or (walk s first) (i + 1) 0
  link-next h =
      leads ∙ sym (walk-next s first i (omega arith)) ∙ ap (λ (j : ℕ). get_or (walk s first) j 0) (sym (add-one i))

  pub link-end : next ≡ no_link → length (walk s first) ≤ i + 1
  link-end none = go (dec_lt (i + 1) (length (walk s first)))
    where
      go : Dec (i + 1 < length (walk s first)) → length (walk s first) ≤ i + 1
      go (yes h) = absurd (walk-link s first i (omega arith) (sym leads ∙ none))
      go (no h) = omega arith

-- ---- the entries before a page

module _ (s ks : List ℕ) (i : ℕ) where
  -- on the first i pages
  abbrev front : List Entry
  front = bind (take i ks) (entries_on s)

  pub front-parts : bind ks (entries_on s) ≡ front ++ bind (drop i ks) (entries_on s)
  front-parts =
      ap (λ (js : List ℕ). bind js (entries_on s)) (sym (take-append-drop i ks))
      ∙ bind-append (entries_on s) (take i ks) (drop i ks)

  -- and on the page at index i
  pub front-more : i < length ks → {l : List ℕ} → PageOn s ks i l
      → length (bind (take (i + 1) ks) (entries_on s)) ≡ length front + length (entries_of l)
  front-more h on =
      ap (λ (j : ℕ). length (bind (take j ks) (entries_on s))) (add-one i)
      ∙ ap (λ (js : List ℕ). length (bind js (entries_on s))) (take-suc ks i 0 h)
      ∙ ap length (bind-append (entries_on s) (take i ks) (get_or ks i 0 ∷ []))
      ∙ length-append front (entries_on s (get_or ks i 0) ++ [])
      ∙ ap (λ (es : List Entry). length front + length es) (append-nil (entries_on s (get_or ks i 0)))
      ∙ ap (λ (x : List ℕ). length front + length (entries_of x)) (sym on.page)

  module _ (t : Entry → Bool) (k : ℕ) (z : Before t (bind ks (entries_on s)) k) (few : length front ≤ k) where
    -- where they stand before the place, none passes
    pub front-none : tally t front ≡ 0
    front-none =
        find-no t front (before-all t front k few (before-left t front (bind (drop i ks) (entries_on s)) k
        (ap (λ (es : List Entry). tally t (take k es)) (sym front-parts) ∙ z)))

    -- and none of the pages has a pair whose entries pass
    pub front-pages : (p : Pair) → ((d : Entry) → is p d ≡ true → t d ≡ true)
        → find (pair_on s p) ks ≡ find (pair_on s p) (drop i ks)
    front-pages p u =
        let none : any (pair_on s p) (take i ks) ≡ false =
        sym (any-bind (is p) (entries_on s) (take i ks))
        ∙ zero-any (is p) front (omega (arith, tally-le (is p) t front u, front-none)) in
        ap (find (pair_on s p)) (sym (take-append-drop i ks))
        ∙ find-right (pair_on s p) (take i ks) (drop i ks)
        (find-zero (pair_on s p) (take i ks) (any-no (pair_on s p) (take i ks) none))

-- ---- the chain of bucket b in a store that is read as an index

module _ {s : List ℕ} {m : Meta} (r : Reads s m) (b : ℕ) (made : b ≤ m.max) {first : ℕ} (home : first ≡ block_of s b)
  where
    read_walk : walk s first ≡ chain_blocks (decode s) b (chain (decode s) b)
    read_walk = ap (walk s) home ∙ walk-read r b made

    pub read-within : Within s (walk s first)
    read-within =
        blocks-within r b made (walk s first) read_walk

    pub read-pages : PagesOk s (walk s first)
    read-pages = subst (PagesOk s) (sym read_walk) (pages-read r b made)

    pub read_short : length (walk s first) ≤ blocks s
    read_short = subst (λ (k : ℕ). length (walk s k) ≤ blocks s) (sym home) (walk-bounded r b made).short

    pub read-entries : bind (walk s first) (entries_on s) ≡ entries_at (decode s) b
    read-entries = ap (λ (ks : List ℕ). bind ks (entries_on s)) read_walk ∙ entries-read r b made

    pub read_found : (p : Pair) → find_in s (walk s first) p ≡ find_at (decode s) b p
    read_found p = ap (λ (ks : List ℕ). find_in s ks p) read_walk ∙ find-read r b made p
