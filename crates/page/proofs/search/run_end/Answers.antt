use Rattle.std.proofs.Common.{◌≡◌, List, ℕ, ◌+◌, ap, arith, ◌∙◌}
use Rattle.page.specs.Entries.{entries_of}
use Rattle.page.specs.Run.{run_start}
use Rattle.page.proofs.RunLaws.{run_end}
use Rattle.page.proofs.RuleLaws.{number-le}
use Rattle.page.proofs.Bisect.{start-inside, code_up, run-empty}
use Rattle.page.proofs.search.run_end.Goals as goal
use Rattle.page.proofs.search.run_end.Goals.{else-start-count_entries-via-then-start-count_entries+else-get_code-h, else-start-count_entries-via-else-start-count_entries}

-- the number of entries up to the end of a run
after : (l : List ℕ) {m n : ℕ} → m ≡ n → run_start (m + 1) (entries_of l) ≡ run_start (n + 1) (entries_of l)
after l e = ap (λ (k : ℕ). run_start (k + 1) (entries_of l)) e

pub get_code-requires : goal.get_code-requires
get_code-requires c = (omega (arith, number-le c.args.p.now c.requires.0.number), c.requires.0.whole)

pub codes_below-requires : goal.codes_below-requires
codes_below-requires c =
    let up = code_up c.args.p.now c.requires.0 (c.args.h + 1) c.args.start (omega arith) (omega arith) in
    (c.requires.0, omega (arith, up, after c.args.p.now c.from.ensures), omega arith)

pub returns-then-get_code-h : goal.returns-then-get_code-h
returns-then-get_code-h c =
    omega (arith, run_end c.args.h (entries_of c.args.p.now), after c.args.p.now c.from.ensures)

pub returns : goal.returns
returns c =
    let l = c.args.p.now in
    let h = c.args.h in
    elim c.else-start-count_entries.branch [
      | else-start-count_entries-via-then-start-count_entries+else-get_code-h w ↦
          let empty = run-empty l c.requires.0 h c.args.start c.requires.1 (omega arith)
          (λ e. w.if-get_code-h.false (w.get_code.ensures ∙ e)) in
          omega (arith, c.requires.1, empty)
      | else-start-count_entries-via-else-start-count_entries w ↦
          omega (arith, start-inside l c.requires.0 (h + 1), run_end h (entries_of l), c.requires.1)
    ]
