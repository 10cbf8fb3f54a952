-- The turns of the loops along a walk that test or count the entries on its pages.
use Rattle.std.proofs.Common.{◌≡◌, Bool, true, ◌&&◌, List, ℕ, ◌+◌, ◌≤◌, ◌<◌, length, get_or, drop, sym, ap, ◌∙◌, drop_of_length-le}
use Rattle.lists.specs.Lists.{all, tally, bind}
use Rattle.lists.specs.ListsLaws.{tally-append}
use Rattle.page.specs.declared.Entry.{Entry}
use Rattle.chain.specs.Within.{entries_on}
use Rattle.chain.specs.WithinLaws.{rest-turn}
use Rattle.shape.specs.LoopLaws.{all_join}

module _ (s walk : List ℕ) (t : Entry → Bool) (i : ℕ) where
  -- the entries on the pages from index k on
  abbrev rest : ℕ → List Entry
  rest k = bind (drop k walk) (entries_on s)

  -- the page at index i, by what its entries tell, and the pages after it
  module _ (more : i < length walk) where
    pub all-turn : (r : Bool) → r ≡ all t (entries_on s (get_or walk i 0))
        → all t (bind (drop i walk) (entries_on s)) ≡ r && all t (bind (drop (i + 1) walk) (entries_on s))
    all-turn r e =
        ap (all t) (rest-turn s walk i more)
        ∙ all_join t (entries_on s (get_or walk i 0)) (rest (i + 1))
        ∙ ap (λ (b : Bool). b && all t (rest (i + 1))) (sym e)

    pub tally-turn : (k : ℕ) → k ≡ tally t (entries_on s (get_or walk i 0))
        → tally t (bind (drop i walk) (entries_on s)) ≡ k + tally t (bind (drop (i + 1) walk) (entries_on s))
    tally-turn k e =
        ap (tally t) (rest-turn s walk i more)
        ∙ tally-append t (entries_on s (get_or walk i 0)) (rest (i + 1))
        ∙ ap (λ (m : ℕ). m + tally t (rest (i + 1))) (sym e)

  module _ (past : length walk ≤ i) where
    pub all_done : all t (bind (drop i walk) (entries_on s)) ≡ true
    all_done = ap (λ (ks : List ℕ). all t (bind ks (entries_on s))) (drop_of_length-le walk {i = i} past)

    pub tally-done : tally t (bind (drop i walk) (entries_on s)) ≡ 0
    tally-done = ap (λ (ks : List ℕ). tally t (bind ks (entries_on s))) (drop_of_length-le walk {i = i} past)
