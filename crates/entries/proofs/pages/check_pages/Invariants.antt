use Rattle.std.proofs.Common.{◌≡◌, suc, length}
use Rattle.address.specs.Limits.{max_blocks}
use Rattle.image.specs.Decode.{max_at}
use Rattle.image.specs.Rules.{rule5}
use Rattle.shape.specs.LoopLaws.{left}
use Rattle.entries.proofs.Paging.{paged}
use Rattle.entries.proofs.pages.check_pages.Given as goal

abbrev pub invariant-loop-b : goal.invariant-loop-b
invariant-loop-b l =
    (left (paged l.store) (suc (max_at l.store)) l.b ≡ rule5 l.store) × (length l.blocks ≡ suc max_blocks)
