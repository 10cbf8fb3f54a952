-- The run as bytes: their number, the entries that are read of them, and that in a page that keeps the page rule they
-- are the bytes of the entries with the hash code.
use Rattle.std.specs.Prelude.{◌≡◌, true, not, List, take, drop}
use Rattle.std.proofs.Math.Path.{sym, ap}
use Rattle.std.proofs.Common.{◌∙◌, zero-add}
use Prim.Native.Nat.{ℕ, ◌+◌, ◌-◌, ◌*◌, ◌/◌, ◌≤◌, ◌<◌}
use native.Mathlib.Omega.{arith}
use borrow.Author.Tests.{eqb-true}
use Rattle.std.proofs.Math.ListN.{length, get_or}
use Rattle.std.proofs.lemmas.List.{length-map}
use Rattle.std.proofs.Math.Seq.{ext_get_or}
use Rattle.lists.specs.Lists.{all, keep, up_from}
use Rattle.lists.specs.ListsLaws.{and_right, length-keep}
use Rattle.lists.specs.RunLaws.{length_run, get_or-run, all-get, all-put}
use Rattle.lists.specs.Bytes.{Bytes, part}
use Rattle.lists.specs.BytesLaws.{length_part}
use Rattle.endian.specs.Endian.{u16_at}
use Rattle.page.specs.declared.Entry.{Entry}
use Rattle.page.specs.Pair.{bad_pair, pair_of}
use Rattle.page.specs.Entries.{read_entry, entry_at, entries_from, entries_of}
use Rattle.page.specs.EntriesLaws.{length-entries_from, get_or-entries_from, length-entries_of, get_or-entries_of}
use Rattle.page.specs.Run.{has_code, run_start, run_length, run_of, bytes_with_code}
use Rattle.page.specs.Places.{run_entries}
use Rattle.page.specs.EntryLaws.{read_entry-part}
use Rattle.page.proofs.RunLaws.{run-le, run-get_or}
use Rattle.page.specs.SublistLaws.{sublist-keep, each_keep}
use Rattle.page.specs.AscendingLaws.{ascending-sublist}
use Rattle.page.specs.PageLaws.{encode_entries}
use Rattle.page.specs.Rule.{flags_ok, numbers_ok, order_ok, page_ok}
use Rattle.page.proofs.RuleLaws.{page_ok-parts, page_ok-sorted, number-le, encode-entries_from}
use Rattle.page.specs.Allowed.{Sorted, OneCode}

-- ---- the entries of a run, by number

pub length-run_entries : (r : List ℕ) → length (run_entries r) ≡ length r / 12
unfolding run_entries
length-run_entries r =
    length-map (up_from 0 (length r / 12)) (λ (k : ℕ). read_entry r (12 * k)) ∙ length_run 0 (length r / 12)

pub get_or-run_entries : (r : List ℕ) (k : ℕ) (d : Entry) → k < length (run_entries r)
    → get_or (run_entries r) k d ≡ read_entry r (12 * k)
unfolding run_entries
get_or-run_entries r k d h =
    let inside : k < length r / 12 = omega (arith, length-run_entries r) in
    get_or-run (λ (i : ℕ). read_entry r (12 * i)) d 0 (length r / 12) k inside
    ∙ ap (λ (i : ℕ). read_entry r (12 * i)) (zero-add k)

-- ---- the run of a page whose entries ascend

module _ (l : List ℕ) (sorted : Sorted l) (h : ℕ) where
  abbrev es : List Entry
  es = entries_of l

  pub run_inside : run_start h (entries_of l) + run_length h (entries_of l) ≤ u16_at l 0
  unfolding order_ok
  run_inside = omega (arith, run-le h es sorted.order, length-entries_of l)

  pub run_fits : 4 + 12 * (run_start h es + run_length h es) ≤ length l
  run_fits = omega (arith, run_inside, number-le l sorted.number, sorted.whole)

  length-run_of : length (run_of h l) ≡ 12 * run_length h (entries_of l)
  unfolding run_of
  length-run_of = length_part _ _ l run_fits ∙ omega arith

  -- the entries in the run's slots are those with the code
  slots-keep : entries_from l (run_start h es) (run_length h es) ≡ keep (has_code h) es
  unfolding run_length order_ok
  slots-keep =
      let d : Entry = read_entry l 0 in
      let n : ℕ = run_length h es in
      ext_get_or d (entries_from l (run_start h es) n) (keep (has_code h) es)
      (length-entries_from l (run_start h es) n ∙ sym (length-keep (has_code h) es)) at
    where
      at : (k : ℕ) → k < length (entries_from l (run_start h es) (run_length h es))
          → get_or (entries_from l (run_start h es) (run_length h es)) k (read_entry l 0)
          ≡ get_or (keep (has_code h) es) k (read_entry l 0)
      at k lt =
          let a : ℕ = run_start h es in
          let n : ℕ = run_length h es in
          let d : Entry = read_entry l 0 in
          let inside : k < n = omega (arith, length-entries_from l a n) in
          get_or-entries_from l a n k d inside
          ∙ sym (get_or-entries_of l (a + k) d (omega (arith, run_inside)))
          ∙ run-get_or h es k d sorted.order inside

  -- and the entries that are read of the run are those in its slots
  run_entries-run_of : run_entries (run_of h l) ≡ keep (has_code h) es
  unfolding run_of entry_at
  run_entries-run_of =
      let d : Entry = read_entry l 0 in
      let n : ℕ = run_length h es in
      ext_get_or d (run_entries (run_of h l)) (entries_from l (run_start h es) n)
      (omega (arith, length-run_entries (run_of h l), length-run_of, length-entries_from l (run_start h es) n)) at
      ∙ slots-keep
    where
      at : (k : ℕ) → k < length (run_entries (run_of h l))
          → get_or (run_entries (run_of h l)) k (read_entry l 0)
          ≡ get_or (entries_from l (run_start h es) (run_length h es)) k (read_entry l 0)
      at k lt =
          let a : ℕ = run_start h es in
          let n : ℕ = run_length h es in
          let d : Entry = read_entry l 0 in
          let inside : k < n = omega (arith, length-run_entries (run_of h l), length-run_of) in
          let place : 4 + 12 * a + 12 * k ≡ 4 + 12 * (a + k) = omega arith in
          get_or-run_entries (run_of h l) k d lt
          ∙ read_entry-part (4 + 12 * a) (4 + 12 * (a + n)) l (12 * k) (omega arith)
          ∙ ap (read_entry l) place
          ∙ sym (get_or-entries_from l a n k d inside)

  module _ {r : List ℕ} (run : r ≡ run_of h l) where
    pub run-entries : run_entries r ≡ keep (has_code h) (entries_of l)
    run-entries = ap run_entries run ∙ run_entries-run_of

    pub run_length_lem : length (run_entries r) ≡ run_length h (entries_of l)
    unfolding run_length
    run_length_lem = ap length run-entries ∙ length-keep (has_code h) es

    pub run-one : OneCode h r
    unfolding order_ok
    run-one =
        record {
          few = omega (arith, ap length run, length-run_of, run_inside, number-le l sorted.number);
          code =
              rw run-entries
              (each_keep (has_code h) (λ (e : Entry). e.pair.hash ≡ h) (λ e t. eqb-true e.pair.hash h t) es);
          order = rw run-entries (ascending-sublist pair_of (sublist-keep (has_code h) es) sorted.order);
        }

-- ---- a page that keeps the page rule

pub run-bytes : (l : List ℕ) → Bytes l → length l ≡ 512 → page_ok l ≡ true → (h : ℕ) → run_of h l ≡ bytes_with_code h l
unfolding run_of part numbers_ok
run-bytes l bytes whole ok h =
    let sorted = page_ok-sorted l whole ok in
    let es = entries_of l in
    let a : ℕ = run_start h es in
    let n : ℕ = run_length h es in
    let inside = run_inside l sorted h in
    let few = number-le l sorted.number in
    let size : 4 + 12 * (a + n) - (4 + 12 * a) ≡ 12 * n = omega arith in
    let all-flags = and_right (all (λ (e : Entry). not (bad_pair e.pair)) es) (all (flags_ok l) (up_from 0 (u16_at l 0)))
    (page_ok-parts l ok).numbers in
    let flags : all (flags_ok l) (up_from a n) ≡ true =
    all-put (flags_ok l) a n
    (λ k low high. all-get (flags_ok l) 0 (u16_at l 0) all-flags k (omega arith) (omega (arith, high, inside))) in
    ap (λ (m : ℕ). take m (drop (4 + 12 * a) l)) size
    ∙ sym (encode-entries_from l bytes n a (omega (arith, inside, few, whole)) flags)
    ∙ ap encode_entries (slots-keep l sorted h)
