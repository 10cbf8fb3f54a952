use Rattle.std.proofs.Common.{◌≡◌, ◌-◌, ℕ, length}
use Rattle.model.specs.Held.{sorted}
use Rattle.merge.specs.Heads.{left_of, Underway}
use Rattle.view.specs.Left.{pairs_left}
use Rattle.view.specs.Lookup.{written}
use Rattle.view.proofs.Listing.{Listed, entries_left}
use Rattle.view.proofs.lookup.put_left.Given as goal

abbrev pub invariant-loop-first : goal.invariant-loop-first
invariant-loop-first l =
    let others : ℕ = length l.pages - l.own in
    record {
      underway : Underway l.store l.pages l.merge;
      listed : Listed (left_of l.store l.pages l.merge.tails) l.own others l.hash l.fresh
          (written (sorted (pairs_left (left_of l.store l.pages l.fn.merge.tails) l.own others l.hash l.fresh)) l.fn.output)
          l.output l.at;
      same_length : length l.output ≡ length l.fn.output;
    }

abbrev pub decreases-loop-first : goal.decreases-loop-first
decreases-loop-first l = entries_left l.store l.pages l.merge.tails (length l.pages)
