use Rattle.std.proofs.Common.{◌≡◌, ℕ, ◌<◌, length}
use Rattle.lists.specs.Block.{block}
use Rattle.store.specs.Store.{sealed}
use Rattle.outcomes.specs.Format.{format_block}
use Rattle.index.proofs.format.format_blocks.Given as goal

abbrev pub invariant-loop-k : goal.invariant-loop-k
invariant-loop-k l =
    record {
      same_length : length l.store ≡ length l.fn.store;
      formatted : (j : ℕ) → j < l.k → block l.store j ≡ sealed l.order.number j (format_block l.size l.order j);
    }
