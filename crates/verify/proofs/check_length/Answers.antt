use Rattle.std.proofs.Common.{◌/◌, ◌%◌, length, eq-eqb, ne_eqb}
use Rattle.std.proofs.lemmas.Bool.{lt-leb}
use Rattle.std.proofs.Common.{le-leb}
use Rattle.lists.specs.Block.{blocks}
use Rattle.image.specs.Rules.{length_ok}
use Rattle.verify.proofs.check_length.Goals as goal

pub returns-then-store-ne0 : goal.returns-then-store-ne0
unfolding length_ok
returns-then-store-ne0 c = rw (ne_eqb (length c.args.store.now % 512) 0 c.if-store-ne0.true)

pub returns-then-size-ge4 : goal.returns-then-size-ge4
unfolding length_ok blocks
returns-then-size-ge4 c =
    let s = c.args.store.now in
    rw (eq-eqb (length s % 512) 0 c.if-store-ne0.false, le-leb 4 (length s / 512) c.if-size-ge4.true)

pub returns-else-size-ge4 : goal.returns-else-size-ge4
unfolding length_ok blocks
returns-else-size-ge4 c =
    let s = c.args.store.now in
    rw (eq-eqb (length s % 512) 0 c.if-store-ne0.false, lt-leb 4 (length s / 512) c.if-size-ge4.false)
