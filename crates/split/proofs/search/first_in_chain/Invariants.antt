use Rattle.std.proofs.Common.{◌≡◌, Bool, ◌-◌, ◌*◌, ◌<◌, ◌≤◌, length, get_or}
use Rattle.lists.specs.Lists.{bind}
use Rattle.image.specs.Decode.{decode}
use Rattle.chain.specs.Walk.{walk}
use Rattle.chain.specs.Within.{entries_on}
use Rattle.split.specs.Mover.{movable}
use Rattle.split.specs.Seek.{Before, AnswersFrom}
use Rattle.split.proofs.Searching.{Behind}
use Rattle.split.proofs.search.first_in_chain.Given as goal

abbrev pub invariant-loop-found : goal.invariant-loop-found
invariant-loop-found g l =
    let ks = walk l.store l.first in
    let es = bind ks (entries_on l.store) in
    let x = decode l.store in
    record {
      inside : l.i < length ks;
      block : l.block ≡ get_or ks l.i 0;
      few : l.passed ≤ 40 * l.i;
      behind : (c : Bool) → Before (movable c x) es l.from → AnswersFrom (goal.F-post g l.test) (movable c x) es l.from
          → Behind l.store ks (movable c x) l.passed l.i;
    }

abbrev pub decreases-loop-found : goal.decreases-loop-found
decreases-loop-found g l = length (walk l.store l.first) - l.i
