-- Loops over a walk by index: the page at index i, a search in the blocks from it on, and the entries on them.
use Rattle.std.specs.Prelude.{◌≡◌, true, List, [], ◌∷◌, ◌++◌, ℕ, suc, ◌+◌, ◌*◌, ◌≤◌, ◌<◌, length, get_or, take, drop, replicate, Bool, false}
use Rattle.std.proofs.Common.{sym, ap, ◌∙◌, add-one, arith, drop-cons, drop_of_length-le, get_or-take}
use Rattle.std.proofs.Math.Option.{none, some}
use Rattle.std.proofs.lemmas.List.{length-replicate}
use Rattle.lists.specs.Lists.{bind, Each, find}
use Rattle.lists.specs.Block.{blocks, block}
use Rattle.lists.specs.BlockLaws.{length-block}
use Rattle.page.specs.SublistLaws.{each-get_or, all-each}
use Rattle.page.specs.Rule.{page_ok}
use Rattle.page.specs.Allowed.{Sorted}
use Rattle.page.proofs.RuleLaws.{page_ok-sorted}
use Rattle.address.specs.Limits.{max_blocks}
use Rattle.chain.specs.Walk.{walk, Sized, Walked}
use Rattle.chain.specs.WalkLaws.{walk-some, walk-few}
use Rattle.chain.specs.Within.{entries_on, PagesOk, Within, PageOn}
use Rattle.chain.specs.FindLaws.{find-here, find-later, find-end}

-- ---- an array that holds a walk

-- as it is made, it has room for any
pub zero_room : {bs : List ℕ} → bs ≡ replicate (suc max_blocks) 0 → length bs ≡ suc max_blocks
zero_room made = ap length made ∙ length-replicate {A = ℕ} (suc max_blocks) 0

module _ {s : List ℕ} {first : ℕ} {bs : List ℕ} {n : ℕ} (held : Walked s first bs n) where
  pub walked-some : 1 ≤ n
  walked-some = omega (arith, held.count, walk-some s first)

  pub walked-few : Sized s → n ≤ suc max_blocks
  walked-few sized = omega (arith, held.count, walk-few s first, sized.few)

  pub walked-get_or : (i : ℕ) → i < n → get_or bs i 0 ≡ get_or (walk s first) i 0
  walked-get_or i h = sym (get_or-take n bs i 0 h) ∙ ap (λ (ks : List ℕ). get_or ks i 0) held.blocks

  pub walked-within : Sized s → Each (λ k. k < blocks s) (walk s first) → Within s (take n bs)
  walked-within sized inside =
      record { few = omega (arith, walked-few sized, held.count, ap length held.blocks); inside = rw held.blocks inside }

-- ---- the block at index i

module _ {s ks : List ℕ} (ok : Within s ks) (i : ℕ) (more : i < length ks) where
  abbrev at : ℕ
  at = get_or ks i 0

  pub block_inside : at < blocks s
  block_inside = each-get_or (λ k. k < blocks s) ks i 0 ok.inside more

  pub block-whole : 512 * at + 512 ≤ length s
  unfolding blocks
  block-whole = omega (arith, block_inside)

  pub block-length : length (block s at) ≡ 512
  block-length = length-block s at block-whole

  pub block-fine : PagesOk s ks → page_ok (block s at) ≡ true
  block-fine pages =
      each-get_or (λ k. page_ok (block s k) ≡ true) ks i 0 (all-each (λ k. page_ok (block s k)) ks pages) more

  pub block-sorted : PagesOk s ks → Sorted (block s at)
  block-sorted pages = page_ok-sorted (block s at) block-length (block-fine pages)

  pub block-page : {l : List ℕ} → l ≡ block s at → PageOn s ks i l
  block-page e = record { page = e; whole = rw e block-length; sorted = λ pages. rw e (block-sorted pages) }

-- ---- what is left of a walk, and of the entries on it, from index i on

module _ (s ks : List ℕ) (i : ℕ) where
  module _ (more : i < length ks) where
    pub walk_turn : drop i ks ≡ get_or ks i 0 ∷ drop (i + 1) ks
    walk_turn = drop-cons ks i 0 more ∙ ap (λ (j : ℕ). get_or ks i 0 ∷ drop j ks) (sym (add-one i))

    pub rest-turn : bind (drop i ks) (entries_on s)
        ≡ entries_on s (get_or ks i 0) ++ bind (drop (i + 1) ks) (entries_on s)
    rest-turn = ap (λ (js : List ℕ). bind js (entries_on s)) walk_turn

    -- a search ends here or goes on
    module _ (t : ℕ → Bool) where
      pub search-here : t (get_or ks i 0) ≡ true → find t (drop i ks) ≡ some (get_or ks i 0)
      search-here h = find-here t ks i 0 more h

      pub search-later : t (get_or ks i 0) ≡ false → find t (drop i ks) ≡ find t (drop (i + 1) ks)
      search-later h = find-later t ks i 0 more h

  pub search-end : (t : ℕ → Bool) → length ks ≤ i → find t (drop i ks) ≡ none
  search-end t past = find-end t ks i past

  pub walk-done : length ks ≤ i → drop i ks ≡ []
  walk-done past = drop_of_length-le ks {i = i} past

  pub rest-done : length ks ≤ i → bind (drop i ks) (entries_on s) ≡ []
  rest-done past = ap (λ (js : List ℕ). bind js (entries_on s)) (walk-done past)

-- a walk of no block
pub within_none : (s : List ℕ) → Within s []
within_none s = record { few = omega arith; inside = tt }
