-- A merge under way: the page at node 1 leads, and its first entry is taken.
use Rattle.std.specs.Prelude.{◌≡◌, refl, ◌≢◌, true, List, [], ◌∷◌, ℕ, ◌+◌, ◌%◌, ◌/◌, ◌≤◌, ◌<◌, length, get_or, set, drop}
use Rattle.std.proofs.Common.{sym, ap, ◌∙◌, add-one, arith, get_or-set_same, get_or-set_other}
use Rattle.std.proofs.Math.Decide.{dec_lt}
use Rattle.lists.specs.Block.{block}
use Rattle.endian.specs.Endian.{u16_at}
use Rattle.page.specs.declared.Entry.{Entry}
use Rattle.page.specs.Pair.{PairFits, pair_of, ascending}
use Rattle.page.specs.SublistLaws.{sublist-drop}
use Rattle.page.specs.Allowed.{Allowed}
use Rattle.page.specs.AllowedLaws.{allowed-sublist}
use Rattle.page.specs.Entries.{entry_at}
use Rattle.page.proofs.RuleLaws.{number-le}
use Rattle.merge.specs.Tree.{ahead, Above, Settled, Won, Second}
use Rattle.merge.specs.ReplayLaws.{won-upto, won-first, settled-moved}
use Rattle.merge.specs.SecondLaws.{next-kept, kept-won}
use Rattle.merge.specs.Merge.{leads, joined, Best}
use Rattle.merge.specs.MergeLaws.{best-end}
use Rattle.merge.specs.declared.First.{First}
use Rattle.merge.specs.declared.Merge.{Merge}
use Rattle.merge.specs.Heads.{no_key, pair_key, pair_from, key_of, tail_of, first_of, page_at, left_of, Merging, Moved}
use Rattle.merge.specs.HeadLaws.{key-done, head-leads, head-on, head-pair, left-done}
use Rattle.merge.specs.HeadLaws.{left-more, put-left, other-left, heads-put}

module _ {s ks : List ℕ} {n : ℕ} {keys tails tree : List ℕ} (m : Merging s ks n keys tails tree) where
  -- ---- what is left of the pages

  pub left-allowed : (i : ℕ) → i < n → Allowed (left_of s ks tails i)
  left-allowed i h = allowed-sublist (sublist-drop (get_or tails i 0 % 64) (page_at s ks i)) (m.pages.allowed i h)

  pub merging-up : (i : ℕ) → i < n → ascending pair_of (left_of s ks tails i) ≡ true
  merging-up i h = (left-allowed i h).order

  ahead-leads : (i j : ℕ) → i < n → j < n → ahead keys tails i j ≡ true
      → leads (left_of s ks tails i) (left_of s ks tails j) ≡ true
  unfolding ahead
  ahead-leads i j h l t =
      let a = m.heads.each i h in
      let b = m.heads.each j l in
      head-leads (left_of s ks tails i) (left_of s ks tails j) (get_or tails i 0 % 64) (get_or tails j 0 % 64)
      (omega (arith, a.few)) (omega (arith, b.few)) (left-allowed i h) (left-allowed j l)
      (rw (← a.key, ← b.key, ← a.tail, ← b.tail) t)

  module _ (some : 1 ≤ n) where
    abbrev j : ℕ
    j = get_or tree 1 0

    pub merging-upto : get_or tree 1 0 < n
    merging-upto = won-upto m.won some

    pub merging-best : Best (left_of s ks tails) n (get_or tree 1 0)
    merging-best =
        record {
          upto = merging-upto;
          first = λ i h. ahead-leads j i merging-upto h (won-first m.won i h);
        }

    pub merging-none : get_or keys (get_or tree 1 0) 0 ≡ no_key → left_of s ks tails (get_or tree 1 0) ≡ []
    merging-none e =
        key-done (left_of s ks tails j) (left-allowed j merging-upto) (sym (m.heads.each j merging-upto).key ∙ e)

    -- nothing is left
    pub merging-done : get_or keys (get_or tree 1 0) 0 ≡ no_key → joined (left_of s ks tails) 0 n ≡ []
    merging-done e = best-end (left_of s ks tails) n merging-best (merging-none e)

    -- ---- its first entry

    module _ (e : Entry) (es : List Entry) (first : left_of s ks tails (get_or tree 1 0) ≡ e ∷ es) where
      pub next-key : get_or keys (get_or tree 1 0) 0 ≡ pair_key e.pair
      next-key = (m.heads.each j merging-upto).key ∙ ap key_of first

      pub next-offset : get_or tails (get_or tree 1 0) 0 / 64 ≡ e.pair.offset
      next-offset =
          omega (arith, (m.heads.each j merging-upto).tail, ap (tail_of (get_or tails j 0 % 64)) first)

      pub next-pair : pair_from (get_or keys (get_or tree 1 0) 0) (get_or tails (get_or tree 1 0) 0 / 64) ≡ e.pair
      next-pair =
          let h = m.heads.each j merging-upto in
          let c = get_or tails j 0 % 64 in
          sym (head-pair e es c (get_or keys j 0) (get_or tails j 0) (omega arith)
          (rw first at (left-allowed j merging-upto)) next-key (h.tail ∙ ap (tail_of c) first))

      pub next_fits : PairFits e.pair
      next_fits = (rw first at (left-allowed j merging-upto)).fit.0

    -- where it is not the key of nothing it is below it
    pub next-below : get_or keys (get_or tree 1 0) 0 ≢ no_key → get_or keys (get_or tree 1 0) 0 < no_key
    next-below ne = go (left_of s ks tails j) refl
      where
        go : (xs : List Entry) → left_of s ks tails j ≡ xs → get_or keys j 0 < no_key
        go [] z = absurd (ne ((m.heads.each j merging-upto).key ∙ ap key_of z))
        go (e ∷ es) z =
            let f = next_fits e es z in omega (arith, ne, next-key e es z, f.hash, f.block)

    -- its first entry is taken
    module _ (more : get_or keys (get_or tree 1 0) 0 < no_key) where
      abbrev c : ℕ
      c = get_or tails j 0 % 64

      abbrev page : List ℕ
      page = block s (get_or ks j 0)

      below : c < u16_at page 0
      below = go (dec_lt c (u16_at page 0))
        where
          go : Dec (c < u16_at page 0) → c < u16_at page 0
          go (yes l) = l
          go (no l) =
              let z : left_of s ks tails j ≡ [] = left-done page c (omega (arith, l)) in
              absurd (omega (arith, more, (m.heads.each j merging-upto).key, ap key_of z))

      pub next-few : get_or tails (get_or tree 1 0) 0 % 64 + 1 ≤ 40
      next-few = omega (arith, below, number-le page (m.pages.sorted j merging-upto).number)

      pub first-left : left_of s ks tails (get_or tree 1 0)
          ≡ entry_at (block s (get_or ks (get_or tree 1 0) 0)) (get_or tails (get_or tree 1 0) 0 % 64)
          ∷ drop (get_or tails (get_or tree 1 0) 0 % 64 + 1) (page_at s ks (get_or tree 1 0))
      first-left =
          left-more page c below
          ∙ ap (λ (k : ℕ). entry_at page c ∷ drop k (page_at s ks j)) (sym (add-one c))

      module _ (keys' tails' : List ℕ)
          (put-keys : keys' ≡ set keys (get_or tree 1 0)
          (key_of (drop (get_or tails (get_or tree 1 0) 0 % 64 + 1) (page_at s ks (get_or tree 1 0)))))
          (put-tails : tails' ≡ set tails (get_or tree 1 0) (tail_of (get_or tails (get_or tree 1 0) 0 % 64 + 1)
          (drop (get_or tails (get_or tree 1 0) 0 % 64 + 1) (page_at s ks (get_or tree 1 0))))) where
        abbrev left : List Entry
        left = drop (c + 1) (page_at s ks j)

        in-keys : j < length keys
        in-keys = omega (arith, merging-upto, m.pages.few, m.heads.keys-size)

        in-tails : j < length tails
        in-tails = omega (arith, merging-upto, m.pages.few, m.heads.tails-size)

        other_keys : (i : ℕ) → i ≢ j → get_or keys' i 0 ≡ get_or keys i 0
        other_keys i ne = ap (λ (l : List ℕ). get_or l i 0) put-keys ∙ get_or-set_other keys j i (key_of left) 0 ne

        other-tails : (i : ℕ) → i ≢ j → get_or tails' i 0 ≡ get_or tails i 0
        other-tails i ne =
            ap (λ (l : List ℕ). get_or l i 0) put-tails ∙ get_or-set_other tails j i (tail_of (c + 1) left) 0 ne

        pub taken-settled : Settled keys' tails' n tree (Above ((n + get_or tree 1 0) / 2))
        taken-settled = settled-moved m.won keys' tails' j other_keys other-tails

        pub taken-moved : (tree' : List ℕ) → Won keys' tails' n tree' → Second keys' tails' n tree'
            → Moved s ks n tree tails keys' tails' tree'
        taken-moved tree' won second =
            record {
              entry = entry_at page c;
              taken =
                  record {
                    here =
                        first-left
                        ∙ ap (λ (es : List Entry). entry_at page c ∷ es)
                        (sym (ap (λ (l : List ℕ). left_of s ks l j) put-tails
                        ∙ put-left s ks keys tails j (c + 1) in-keys in-tails next-few));
                    other = λ i ne.
                        sym (ap (λ (l : List ℕ). left_of s ks l i) put-tails
                        ∙ other-left s ks keys tails j (c + 1) in-keys in-tails next-few i ne);
                  };
              merging =
                  record {
                    pages = m.pages;
                    heads =
                        rw (put-keys, put-tails)
                        (heads-put s ks keys tails j (c + 1) in-keys in-tails next-few n m.heads.keys-size
                        m.heads.tails-size (λ k h ne. m.heads.each k h));
                    won = won;
                    second = second;
                  };
            }

        -- its head comes no earlier than it did
        later : (get_or keys j 0 ≤ get_or keys' j 0)
            × (get_or keys j 0 ≡ get_or keys' j 0 → get_or tails j 0 ≤ get_or tails' j 0)
        later =
            let h = m.heads.each j merging-upto in
            let e = entry_at page c in
            let o = head-on e left c (rw first-left at (left-allowed j merging-upto)) in
            let a : get_or keys j 0 ≡ key_of (e ∷ left) = h.key ∙ ap key_of first-left in
            let b : get_or tails j 0 ≡ tail_of c (e ∷ left) = h.tail ∙ ap (tail_of c) first-left in
            let a' : get_or keys' j 0 ≡ key_of left =
            ap (λ (l : List ℕ). get_or l j 0) put-keys ∙ get_or-set_same keys j (key_of left) 0 in-keys in
            let b' : get_or tails' j 0 ≡ tail_of (c + 1) left =
            ap (λ (l : List ℕ). get_or l j 0) put-tails ∙ get_or-set_same tails j (tail_of (c + 1) left) 0 in-tails in
            (omega (arith, o.0, a, a'), λ q. omega (arith, o.1 (sym a ∙ q ∙ a'), b, b'))

        -- it is ahead of the page that comes second: the tree stays as it is
        pub taken-kept : get_or tree 0 0 < n → ahead keys' tails' (get_or tree 1 0) (get_or tree 0 0) ≡ true
            → Moved s ks n tree tails keys' tails' tree
        taken-kept l h =
            let p = get_or tree 0 0 in
            taken-moved tree
            (kept-won m.won keys' tails' j other_keys other-tails p (m.second l) h later)
            (λ u. next-kept m.won keys' tails' j other_keys other-tails p (m.second u))

-- where something is left, by what `first` answers
pub first-below : {s ks : List ℕ} {n : ℕ} (g : Merge) → Merging s ks n g.keys g.tails g.tree → 1 ≤ n → (f : First)
    → (f.key ≢ no_key) × (f ≡ first_of g) → get_or g.keys (get_or g.tree 1 0) 0 < no_key
first-below g m some f h = next-below m some (λ e. h.0 (ap (λ (x : First). x.key) h.1 ∙ e))
