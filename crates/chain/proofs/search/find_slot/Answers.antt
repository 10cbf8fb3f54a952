use Rattle.std.proofs.Common.{arith, false, length, sym, true, ◌*◌, ◌+◌, ◌<◌, ◌≡◌, ◌≤◌}
use Rattle.page.specs.Pair.{same}
use Rattle.page.specs.Entries.{read_entry}
use Rattle.page.specs.Places.{run_entries}
use Rattle.page.proofs.RunPartLaws.{length-run_entries, run_inside, run_length_lem, run-one}
use Rattle.page.proofs.RuleLaws.{number-le}
use Rattle.chain.proofs.Slots.{slot_same, slot-other, slot-past}
use Rattle.chain.proofs.search.find_slot.Goals as goal
use Rattle.chain.proofs.search.find_slot.Goals.{else-k-count_run-via-then-k-count_run+else-is_same, else-k-count_run-via-else-k-count_run}

-- the slots before the run, and those in it before the pair: at most 40
few : (c : goal.After-entries_before) → c.entries_before.result + c.place_in_run-k.result ≤ 40
few c =
    let l = c.args.page.now in
    let h = c.args.pair.hash in
    let below : c.place_in_run-k.result < length (run_entries c.find_run-run.result.now) =
    omega (arith, c.count_run.ensures, c.if-k-count_run.true) in
    omega (
      arith,
      below,
      run_length_lem l c.requires h c.find_run-run.ensures.0,
      c.entries_before.ensures,
      run_inside l c.requires h,
      number-le l c.requires.number,
    )

pub place_in_run-k-requires : goal.place_in_run-k-requires
place_in_run-k-requires c = run-one c.args.page.now c.requires c.args.pair.hash c.find_run-run.ensures.0

pub run_entry-requires : goal.run_entry-requires
run_entry-requires c =
    let run = c.find_run-run.result.now in
    omega (arith, c.count_run.ensures, c.if-k-count_run.true, length-run_entries run)

pub overflow_add-result : goal.overflow_add-result
overflow_add-result c = omega (arith, few c)

pub overflow_cast-result : goal.overflow_cast-result
overflow_cast-result c = omega (arith, few c)

pub returns-then-is_same : goal.returns-then-is_same
returns-then-is_same c =
    let k = c.place_in_run-k in
    let below : k.result < length (run_entries c.find_run-run.result.now) =
    omega (arith, c.count_run.ensures, c.if-k-count_run.true) in
    let test : same c.args.pair (read_entry c.find_run-run.result.now (12 * k.result)).pair ≡ true = cc in
    sym (slot_same c.requires c.args.pair c.find_run-run.ensures.0 k.result k.ensures below
    c.entries_before.result c.entries_before.ensures test)

pub returns : goal.returns
returns c =
    let k = c.place_in_run-k in
    elim c.else-k-count_run.branch [
      | else-k-count_run-via-then-k-count_run+else-is_same w ↦
          let below : k.result < length (run_entries c.find_run-run.result.now) =
          omega (arith, c.count_run.ensures, w.if-k-count_run.true) in
          let test : same c.args.pair (read_entry c.find_run-run.result.now (12 * k.result)).pair ≡ false = cc in
          sym (slot-other c.requires c.args.pair c.find_run-run.ensures.0 k.result k.ensures below test)
      | else-k-count_run-via-else-k-count_run w ↦
          let past : length (run_entries c.find_run-run.result.now) ≤ k.result =
          omega (arith, c.count_run.ensures, w.if-k-count_run.false) in
          sym (slot-past c.requires c.args.pair c.find_run-run.ensures.0 k.result k.ensures past)
    ]
