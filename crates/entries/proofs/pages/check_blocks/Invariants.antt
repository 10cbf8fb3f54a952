use Rattle.std.proofs.Common.{◌≡◌, drop}
use Rattle.lists.specs.Lists.{all}
use Rattle.lists.specs.Block.{block}
use Rattle.page.specs.Rule.{page_ok}
use Rattle.entries.proofs.pages.check_blocks.Given as goal

abbrev pub invariant-loop-block : goal.invariant-loop-block
invariant-loop-block l =
    all (λ k. page_ok (block l.store k)) (drop l.block-index l.walk) ≡ all (λ k. page_ok (block l.store k)) l.walk
