-- A bisection halves what is left: the place that is looked for stays between `at` and `at + left`.
use mathlib.Core.Path.{◌≡◌, sym, ap, ◌∙◌}
use mathlib.Core.Logic.{◌≢◌}
use mathlib.Core.Bool.{Bool, true, false}
use mathlib.Core.List.{List}
use Prim.Native.Nat.{ℕ, ◌+◌, ◌-◌, ◌*◌, ◌/◌, ◌≤◌, ◌<◌}
use native.Mathlib.Decide.{dec_lt}
use native.Mathlib.Omega.{arith}
use borrow.Author.Tests.{lt-ltb, le-ltb}
use lib.Dec.{ltb}
use lib.ListN.{length, get_or}
use Rattle.lists.specs.Lists.{b2n}
use Rattle.lists.specs.Bytes.{Bytes}
use Rattle.endian.specs.Endian.{u16_at}
use Rattle.endian.proofs.EndianLaws.{u16_at-lt}
use Rattle.page.specs.declared.Pair.{Pair}
use Rattle.page.specs.declared.Entry.{Entry}
use Rattle.page.specs.Pair.{before}
use Rattle.page.specs.Entries.{read_entry, entry_at, entries_of}
use Rattle.page.specs.Places.{place_of, run_entries, reading_key}
use Rattle.page.specs.Run.{run_start, run_length}
use Rattle.page.specs.EntriesLaws.{length-entries_of, get_or-entries_of}
use Rattle.page.specs.PairLaws.{Order, less, equal, more, order, before-hash}
use Rattle.page.specs.PlaceLaws.{place-le, place-above, place-below}
use Rattle.page.specs.SublistLaws.{each-get_or}
use Rattle.page.proofs.RunLaws.{lowest, run_start-place, run_end, before-place}
use Rattle.page.proofs.RunPartLaws.{get_or-run_entries}
use Rattle.page.specs.Rule.{order_ok}
use Rattle.page.specs.Allowed.{Sorted, OneCode}
use Rattle.page.specs.Bisection.{Splits}

abbrev pub half : ℕ → ℕ
half left = left - left / 2

-- the place that is looked for is among what is left
pub record Between (place at left : ℕ) : Type 0 where
  pub low : at ≤ place
  pub high : place ≤ at + left

-- a turn goes half of what is left further, or stays
pub advance-le : (left n : ℕ) (t : Bool) → n ≡ b2n t → half left * n + left / 2 ≤ left
advance-le left n true e = rw e (omega arith)
advance-le left n false e = rw e (omega arith)

-- the key r of the place in the middle tells where to go on
pub turn : (place at left r bound n : ℕ) → 0 < left → Between place at left
    → (r < bound → at + half left - 1 < place) → (bound ≤ r → place ≤ at + half left - 1) → n ≡ b2n (ltb r bound)
    → Between place (at + half left * n) (left / 2)
turn place at left r bound n some b up down e = go (dec_lt r bound)
  where
    go : Dec (r < bound) → Between place (at + half left * n) (left / 2)
    go (yes l) =
        let one : n ≡ 1 = e ∙ ap b2n (lt-ltb r bound l) in
        rw one (record { low = omega (arith, up l); high = omega (arith, b.high) })
    go (no l) =
        let none : n ≡ 0 = e ∙ ap b2n (le-ltb r bound (omega arith)) in
        rw none (record { low = omega (arith, b.low); high = omega (arith, down (omega arith)) })

-- ---- the hash codes of a page

module _ (l : List ℕ) (sorted : Sorted l) (code : ℕ) where
  abbrev code_below : ℕ → Bool
  code_below k = ltb (entry_at l k).pair.hash code

  place : run_start code (entries_of l) ≡ place_of (lowest code) (entries_of l)
  unfolding order_ok
  place = run_start-place code (entries_of l) sorted.order

  pub start-inside : run_start code (entries_of l) ≤ u16_at l 0
  start-inside = omega (arith, place, place-le (lowest code) (entries_of l), length-entries_of l)

  here : (k : ℕ) → k < u16_at l 0 → before (get_or (entries_of l) k (entry_at l k)).pair (lowest code) ≡ code_below k
  here k inside =
      ap (λ (e : Entry). before e.pair (lowest code)) (get_or-entries_of l k (entry_at l k) inside)
      ∙ before-hash (entry_at l k).pair code

  pub code_up : (k : ℕ) → k < u16_at l 0 → (entry_at l k).pair.hash < code → k < run_start code (entries_of l)
  unfolding order_ok
  code_up k inside h =
      let above = place-above (lowest code) (entries_of l) k (entry_at l k) sorted.order
      (omega (arith, length-entries_of l)) (here k inside ∙ lt-ltb (entry_at l k).pair.hash code h) in
      omega (arith, place, above)

  pub code-down : (k : ℕ) → k < u16_at l 0 → code ≤ (entry_at l k).pair.hash → run_start code (entries_of l) ≤ k
  code-down k inside h =
      let below = place-below (lowest code) (entries_of l) k (entry_at l k)
      (omega (arith, length-entries_of l)) (here k inside ∙ le-ltb (entry_at l k).pair.hash code h) in
      omega (arith, place, below)

  -- a bisection by the hash codes
  pub codes-split : {key : ℕ → ℕ → Type 0} (low high : ℕ) → low ≤ run_start code (entries_of l) → high ≡ u16_at l 0
      → ((k r : ℕ) → k < high → key k r → r ≡ (entry_at l k).pair.hash)
      → Splits key low high code (run_start code (entries_of l))
  codes-split low high from end told =
      record {
        from = from;
        upto = omega (arith, start-inside);
        before = λ k r _ inside given h. code_up k (omega arith) (omega (arith, told k r inside given));
        after = λ k r _ inside given h. code-down k (omega arith) (omega (arith, told k r inside given));
      }

module _ (l : List ℕ) (sorted : Sorted l) (h : ℕ) where
  -- a run is empty where its first slot has another code
  pub run-empty : (k : ℕ) → k ≡ run_start h (entries_of l) → k < u16_at l 0 → (entry_at l k).pair.hash ≢ h
      → run_length h (entries_of l) ≡ 0
  run-empty k start inside other = go (order (entry_at l k).pair.hash h)
    where
      go : Order (entry_at l k).pair.hash h → run_length h (entries_of l) ≡ 0
      go (less j) = absurd (omega (arith, start, code_up l sorted h k inside j))
      go (equal j) = absurd (other j)
      go (more j) = omega (arith, start, run_end h (entries_of l), code-down l sorted (h + 1) k inside (omega arith))

-- ---- the places of a run

-- a pair of the run's hash code that is looked for by its key
pub record Sought (r : List ℕ) (key : ℕ) (x : Pair) : Type 0 where
  pub named : reading_key x ≡ key
  pub fits : x.offset < 65536
  pub one : OneCode x.hash r

module _ (r : List ℕ) (bytes : Bytes r) (key : ℕ) (x : Pair) (sought : Sought r key x) where
  abbrev key_below : ℕ → Bool
  key_below k = ltb (reading_key (read_entry r (12 * k)).pair) key

  key-here : (k : ℕ) → k < length (run_entries r)
      → before (get_or (run_entries r) k (read_entry r (12 * k))).pair x ≡ key_below k
  unfolding read_entry
  key-here k inside =
      let d : Entry = read_entry r (12 * k) in
      let e : get_or (run_entries r) k d ≡ d = get_or-run_entries r k d inside in
      let code : d.pair.hash ≡ x.hash =
      ap (λ (f : Entry). f.pair.hash) (sym e)
      ∙ each-get_or (λ (f : Entry). f.pair.hash ≡ x.hash) (run_entries r) k d sought.one.code inside in
      ap (λ (f : Entry). before f.pair x) e
      ∙ before-place d.pair x code (u16_at-lt r bytes (12 * k + 8)) sought.fits
      ∙ ap (ltb (reading_key d.pair)) sought.named

  place_up : (k : ℕ) → k < length (run_entries r) → reading_key (read_entry r (12 * k)).pair < key
      → k < place_of x (run_entries r)
  place_up k inside h =
      place-above x (run_entries r) k (read_entry r (12 * k)) sought.one.order inside
      (key-here k inside ∙ lt-ltb (reading_key (read_entry r (12 * k)).pair) key h)

  place-down : (k : ℕ) → k < length (run_entries r) → key ≤ reading_key (read_entry r (12 * k)).pair
      → place_of x (run_entries r) ≤ k
  place-down k inside h =
      place-below x (run_entries r) k (read_entry r (12 * k)) inside
      (key-here k inside ∙ le-ltb (reading_key (read_entry r (12 * k)).pair) key h)

  -- a bisection by the keys
  pub places-split : {given : ℕ → ℕ → Type 0} (n : ℕ) → n ≡ length (run_entries r)
      → ((k m : ℕ) → k < n → given k m → m ≡ reading_key (read_entry r (12 * k)).pair)
      → Splits given 0 n key (place_of x (run_entries r))
  places-split n end told =
      record {
        from = omega arith;
        upto = omega (arith, place-le x (run_entries r));
        before = λ k m _ inside g h. place_up k (omega arith) (omega (arith, told k m inside g));
        after = λ k m _ inside g h. place-down k (omega arith) (omega (arith, told k m inside g));
      }
