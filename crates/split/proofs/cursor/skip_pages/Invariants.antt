use Rattle.std.proofs.Common.{◌≡◌, ◌-◌, ◌*◌, ◌<◌, ◌≤◌, length, get_or, take}
use Rattle.lists.specs.Lists.{bind}
use Rattle.chain.specs.Walk.{walk}
use Rattle.chain.specs.Within.{entries_on}
use Rattle.split.proofs.cursor.skip_pages.Given as goal

abbrev pub invariant-loop-left : goal.invariant-loop-left
invariant-loop-left l =
    let ks = walk l.store l.first in
    record {
      inside : l.index < length ks;
      block : l.block ≡ get_or ks l.index 0;
      near : l.left ≤ l.from;
      passed : l.from - l.left ≡ length (bind (take l.index ks) (entries_on l.store));
      few : l.from - l.left ≤ 40 * l.index;
    }

abbrev pub decreases-loop-left : goal.decreases-loop-left
decreases-loop-left l = length (walk l.store l.first) - l.index
