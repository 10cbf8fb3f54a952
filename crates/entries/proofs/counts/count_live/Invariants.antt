use Rattle.std.proofs.Common.{◌≡◌, suc, ◌+◌, ◌*◌, ◌≤◌, length}
use Rattle.address.specs.Limits.{max_blocks}
use Rattle.model.specs.Held.{count}
use Rattle.image.specs.Decode.{decode}
use Rattle.entries.proofs.Counting.{live_from}
use Rattle.entries.proofs.counts.count_live.Given as goal

abbrev pub invariant-loop-b : goal.invariant-loop-b
invariant-loop-b l = record {
  few : l.live ≤ 40 * suc max_blocks * l.b;
  counted : l.live + live_from l.store l.b ≡ count (decode l.store);
  room : length l.blocks ≡ suc max_blocks;
}
