-- What the entry of a run at the place of a pair tells of the pair.
use mathlib.Core.Path.{◌≡◌, sym, ap, ◌∙◌}
use mathlib.Core.Bool.{true, false, ◌&&◌}
use mathlib.Core.List.{List}
use Prim.Native.Nat.{ℕ, ◌+◌, ◌*◌, ◌≤◌, ◌<◌}
use native.Mathlib.Omega.{arith}
use borrow.Author.Tests.{lt-ltb, le-ltb}
use lib.Dec.{ltb}
use lib.ListN.{length, get_or}
use Rattle.std.specs.Prelude.{Some, None}
use Rattle.lists.specs.Lists.{any, keep}
use Rattle.page.specs.declared.Pair.{Pair}
use Rattle.page.specs.declared.Entry.{Entry}
use Rattle.page.specs.Pair.{same, is}
use Rattle.page.specs.Entries.{read_entry, entries_of}
use Rattle.page.specs.Places.{place_of, run_entries}
use Rattle.page.specs.Run.{has_code, run_start, run_of}
use Rattle.page.specs.PlaceLaws.{place-any}
use Rattle.page.proofs.RunLaws.{place-run, any-run}
use Rattle.page.proofs.RunPartLaws.{get_or-run_entries, run-entries, run-one}
use Rattle.page.specs.Rule.{order_ok}
use Rattle.page.specs.Allowed.{Sorted}
use Rattle.chain.specs.Search.{slot_in}
use Rattle.chain.proofs.SearchLaws.{slot-here, slot-nowhere}

module _ {l : List ℕ} (sorted : Sorted l) (p : Pair) {r : List ℕ} (run : r ≡ run_of p.hash l) where
  entries : run_entries r ≡ keep (has_code p.hash) (entries_of l)
  entries = run-entries l sorted p.hash run

  module _ (k : ℕ) (place : k ≡ place_of p (run_entries r)) where
    -- the pair stands at its place in the run or nowhere
    stands : (d : Entry) → any (is p) (entries_of l) ≡ ltb k (length (run_entries r)) && is p (get_or (run_entries r) k d)
    stands d =
        any-run p (entries_of l)
        ∙ ap (any (is p)) (sym entries)
        ∙ rw place (place-any p (run_entries r) d (run-one l sorted p.hash run).order)

    module _ (inside : k < length (run_entries r)) where
      tested : any (is p) (entries_of l) ≡ same p (read_entry r (12 * k)).pair
      tested =
          let d : Entry = read_entry r (12 * k) in
          stands d ∙ rw (lt-ltb k (length (run_entries r)) inside, get_or-run_entries r k d inside)

      -- the slot is counted from the page's first
      pub slot_same : (start : ℕ) → start ≡ run_start p.hash (entries_of l)
          → same p (read_entry r (12 * k)).pair ≡ true → slot_in (entries_of l) p ≡ Some (start + k)
      unfolding order_ok
      slot_same start before h =
          let whole = place-run p (entries_of l) sorted.order in
          let at : place_of p (entries_of l) ≡ start + k =
          omega (arith, whole, before, place, ap (place_of p) entries) in
          slot-here (entries_of l) p (tested ∙ h) ∙ ap Some at

      pub slot-other : same p (read_entry r (12 * k)).pair ≡ false → slot_in (entries_of l) p ≡ None
      slot-other h = slot-nowhere (entries_of l) p (tested ∙ h)

    pub slot-past : length (run_entries r) ≤ k → slot_in (entries_of l) p ≡ None
    slot-past h =
        slot-nowhere (entries_of l) p (stands (read_entry r (12 * k)) ∙ rw (le-ltb k (length (run_entries r)) h))
