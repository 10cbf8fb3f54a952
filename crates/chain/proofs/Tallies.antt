-- The turns of the loops that count: the unmoved entries in the run of a hash code, and the pages of a walk.
use mathlib.Core.Path.{◌≡◌, sym, ap, ◌∙◌}
use mathlib.Core.Bool.{Bool, true, false, not}
use mathlib.Core.List.{List, ◌∷◌}
use Prim.Native.Nat.{ℕ, suc, ◌+◌, ◌*◌, ◌≤◌, ◌<◌}
use native.Mathlib.Numerals.{add-one}
use native.Mathlib.Omega.{arith}
use lib.ListN.{length, get_or, drop, drop_of_length-le}
use lib.Seq.{drop-cons}
use Rattle.lists.specs.Lists.{b2n, tally, bind}
use Rattle.lists.specs.ListsLaws.{tally-append, tally-keep, tally-cong, length-keep}
use Rattle.lists.specs.Block.{block}
use Rattle.page.specs.declared.Entry.{Entry}
use Rattle.page.specs.Entries.{read_entry, entries_of}
use Rattle.page.specs.Run.{has_code, run_length, run_of}
use Rattle.page.specs.Places.{run_entries}
use Rattle.page.specs.EntriesLaws.{length-entries_of}
use Rattle.page.specs.SublistLaws.{sublist-keep, length-sublist}
use Rattle.page.specs.Allowed.{Sorted}
use Rattle.page.proofs.RuleLaws.{number-le}
use Rattle.page.proofs.RunPartLaws.{get_or-run_entries, run-entries, run_length_lem}
use Rattle.model.specs.TallyLaws.{and_comm}
use Rattle.chain.specs.Within.{entries_on}
use Rattle.chain.specs.WithinLaws.{rest-turn}
use Rattle.chain.specs.Pairs.{is_match}

abbrev pub unmoved : Entry → Bool
unmoved e = not e.moved

module _ {l : List ℕ} (sorted : Sorted l) where
  abbrev es : List Entry
  es = entries_of l

  -- no test counts more than 40 entries of a page
  pub count-few : (t : Entry → Bool) → tally t (entries_of l) ≤ 40
  count-few t =
      omega (
        arith,
        length-keep t es,
        length-sublist (sublist-keep t es),
        length-entries_of l,
        number-le l sorted.number,
      )

  module _ (h : ℕ) {r : List ℕ} (run : r ≡ run_of h l) where
    -- the entries of the run are those that have the code
    pub count-run : tally (is_match h false) (entries_of l) ≡ length (run_entries r)
    unfolding run_length
    count-run = sym (run_length_lem l sorted h run)

    pub fresh_start : tally (is_match h true) (entries_of l) ≡ tally unmoved (run_entries r)
    fresh_start = tally-cong _ _ es (λ d. and_comm (unmoved d) (has_code h d))
        ∙ sym (tally-keep unmoved (has_code h) es)
        ∙ ap (tally unmoved) (sym (run-entries l sorted h run))

-- n are counted before entry i of a run
module _ (r : List ℕ) (i n all : ℕ) (left : all ≡ n + tally unmoved (drop i (run_entries r))) where
  pub fresh-turn : i < length (run_entries r) → (k : ℕ) → k ≡ b2n (not (read_entry r (12 * i)).moved)
      → all ≡ (n + k) + tally unmoved (drop (i + 1) (run_entries r))
  fresh-turn more k e =
      let d : Entry = read_entry r (12 * i) in
      let split : drop i (run_entries r) ≡ d ∷ drop (suc i) (run_entries r) =
      drop-cons (run_entries r) i d more
      ∙ ap (λ (f : Entry). f ∷ drop (suc i) (run_entries r)) (get_or-run_entries r i d more) in
      let next = ap (λ (j : ℕ). tally unmoved (drop j (run_entries r))) (add-one i) in
      omega (arith, left, ap (tally unmoved) split, next, e)

  pub fresh-end : length (run_entries r) ≤ i → all ≡ n
  fresh-end past = omega (arith, left, ap (tally unmoved) (drop_of_length-le (run_entries r) past))

-- ---- along a walk

module _ (s ks : List ℕ) (t : Entry → Bool) (i n : ℕ)
    (left : tally t (bind ks (entries_on s)) ≡ n + tally t (bind (drop i ks) (entries_on s))) where
  -- the page at index i has k
  pub count_turn : i < length ks → {x : List ℕ} → x ≡ block s (get_or ks i 0) → {k : ℕ} → k ≡ tally t (entries_of x)
      → tally t (bind ks (entries_on s)) ≡ (n + k) + tally t (bind (drop (i + 1) ks) (entries_on s))
  count_turn more on e =
      omega (
        arith,
        left,
        ap (tally t) (rest-turn s ks i more),
        tally-append t (entries_on s (get_or ks i 0)) (bind (drop (i + 1) ks) (entries_on s)),
        e ∙ ap (λ (y : List ℕ). tally t (entries_of y)) on,
      )

  pub count-end : length ks ≤ i → tally t (bind ks (entries_on s)) ≡ n
  count-end past =
      omega (arith, left, ap (λ (js : List ℕ). tally t (bind js (entries_on s))) (drop_of_length-le ks {i = i} past))
