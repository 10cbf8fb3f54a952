use Rattle.std.proofs.Common.{replicate, refl, arith}
use Rattle.interpreter.specs.LentLaws.{remove-lent}
use Rattle.interpreter.proofs.lent.remove_lent.Goals as goal

pub returns : goal.returns
returns c =
    let done =
    remove-lent c.args.store.now (replicate 8192 0) _ (λ i. omega (arith, c.slice_known-1.given i)) refl
    c.wipe_head.ensures _ (c.ranges.hash.fits, c.ranges.block.fits, c.ranges.offset.fits) c.remove.ensures
    in
    record { value = done.0; store_after = done.1 }
