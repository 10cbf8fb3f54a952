-- What the numbers of the next entry tell of the entries that are left.
use Rattle.std.specs.Prelude.{◌≡◌, refl, true, false, List, [], ◌∷◌, ℕ, ◌≤◌, ◌<◌, get_or}
use Rattle.std.proofs.Common.{sym, ap, ◌∙◌, arith, le-ltb, ne_eqb}
use Rattle.lists.specs.Lists.{any}
use Rattle.page.specs.declared.Pair.{Pair}
use Rattle.page.specs.declared.Entry.{Entry}
use Rattle.page.specs.Pair.{PairFits, before, is}
use Rattle.merge.specs.Merge.{joined}
use Rattle.merge.specs.Heads.{no_key, pair_key, key_of, left_of, Merging}
use Rattle.merge.specs.KeyLaws.{same_key, before-key}
use Rattle.merge.specs.MergingLaws.{merging-up, merging-upto, merging-best, next-key, next-offset, next_fits}
use Rattle.entries.specs.Next.{head_is, head_before, next_is, next_before, NotBefore}
use Rattle.entries.specs.TakenLaws.{first-least, first_any, first-not-before}

module _ {s ks : List ℕ} {n : ℕ} {keys tails tree : List ℕ} (m : Merging s ks n keys tails tree) (some : 1 ≤ n) where
  abbrev j : ℕ
  j = get_or tree 1 0

  abbrev left : ℕ → List Entry
  left = left_of s ks tails

  module _ (e : Entry) (es : List Entry) (first : left_of s ks tails (get_or tree 1 0) ≡ e ∷ es) where
    pub next-least : NotBefore (left_of s ks tails) n e.pair
    next-least = first-least left n (merging-best m some) (merging-up m) e es first

  module _ (p : Pair) (fits : PairFits p) (key offset : ℕ) (has_key_lem : key ≡ pair_key p) (has-offset : offset ≡ p.offset)
      (below : key < no_key) where
    empty : left j ≡ [] → get_or keys j 0 ≡ no_key
    empty z = (m.heads.each j (merging-upto m some)).key ∙ ap key_of z

    next-head : next_is keys tails tree key offset ≡ head_is p (left j)
    next-head = go (left j) refl
      where
        go : (xs : List Entry) → left j ≡ xs → next_is keys tails tree key offset ≡ head_is p xs
        go [] z = rw (ne_eqb (get_or keys j 0) key (λ q. omega (arith, q, below, empty z)))
        go (e ∷ es) z =
            rw (next-key m some e es z, next-offset m some e es z, has_key_lem, has-offset) (same_key e.pair p
            (next_fits m some e es z) fits)

    next-before : next_before keys tails tree key offset ≡ head_before p (left j)
    next-before = go (left j) refl
      where
        go : (xs : List Entry) → left j ≡ xs → next_before keys tails tree key offset ≡ head_before p xs
        go [] z =
            rw (ne_eqb (get_or keys j 0) key (λ q. omega (arith, q, below, empty z)))
            (le-ltb (get_or keys j 0) key (omega (arith, below, empty z)))
        go (e ∷ es) z =
            rw (next-key m some e es z, next-offset m some e es z, has_key_lem, has-offset)
            (before-key e.pair p (next_fits m some e es z) fits)

    -- where no entry left stands before p, p stands there exactly if the next entry has it
    pub next-any : NotBefore (left_of s ks tails) n p
        → next_is keys tails tree key offset ≡ any (is p) (joined (left_of s ks tails) 0 n)
    next-any low = next-head ∙ first_any left n (merging-best m some) (merging-up m) p low

    -- where the next does not stand before p, none does
    pub next-none : next_before keys tails tree key offset ≡ false → NotBefore (left_of s ks tails) n p
    next-none h =
        first-not-before left n (merging-best m some) (merging-up m) p (sym next-before ∙ h)

    pub next-passed : next_before keys tails tree key offset ≡ true → (e : Entry) (es : List Entry)
        → left_of s ks tails (get_or tree 1 0) ≡ e ∷ es → before e.pair p ≡ true
    next-passed h e es z = sym (next-before ∙ ap (head_before p) z) ∙ h
