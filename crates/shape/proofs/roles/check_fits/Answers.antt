use Rattle.std.proofs.Common.{ap, arith, length, sym, ◌∙◌}
use Rattle.lists.specs.Block.{blocks}
use Rattle.reader.specs.KnownLaws.{known-addressed, sized, block-whole, block-full}
use Rattle.shape.specs.LoopLaws.{passed, failed, left-start, left-turn, left-done}
use Rattle.shape.proofs.Fitting.{fits_at, fits-found}
use Rattle.shape.proofs.roles.check_fits.Goals as goal

pub loop-k-init : goal.loop-k-init
loop-k-init c = left-start (fits_at c.args.store.now) (blocks c.args.store.now)

pub block_at-requires : goal.block_at-requires
unfolding blocks
block_at-requires c = block-whole c.requires c.loop-k.k c.loop-k-test.true

pub overflow_cast-k : goal.overflow_cast-k
unfolding blocks
overflow_cast-k c = omega (arith, c.loop-k-test.true, (sized c.requires).few)

pub role_at-requires : goal.role_at-requires
role_at-requires c = known-addressed c.requires

pub fits_role-requires : goal.fits_role-requires
unfolding blocks
fits_role-requires c = ap length c.block_at.ensures ∙ block-full c.requires c.loop-k.k c.loop-k-test.true

pub returns-then-not-fits_role : goal.returns-then-not-fits_role
unfolding blocks
returns-then-not-fits_role c =
    let s = c.args.store.now in
    let k = c.loop-k.k in
    let fit = c.fits_role.ensures
    ∙ fits-found c.requires k c.role_at.result c.role_at.ensures c.block_at.result.now c.block_at.ensures in
    let test = sym fit ∙ c.if-not-fits_role.true in
    sym (sym c.loop-k.invariant ∙ failed (fits_at s k) _ _ (left-turn (fits_at s) (blocks s) k c.loop-k-test.true) test)

pub loop-k-preserved : goal.loop-k-preserved
unfolding blocks
loop-k-preserved c =
    let s = c.args.store.now in
    let k = c.loop-k.k in
    let fit = c.fits_role.ensures
    ∙ fits-found c.requires k c.role_at.result c.role_at.ensures c.block_at.result.now c.block_at.ensures in
    let test = sym fit ∙ c.if-not-fits_role.false in
    passed (fits_at s k) _ _ (left-turn (fits_at s) (blocks s) k c.loop-k-test.true) test ∙ c.loop-k.invariant

pub returns : goal.returns
unfolding blocks
returns c =
    let s = c.args.store.now in
    sym (sym c.loop-k.invariant ∙ left-done (fits_at s) (blocks s) c.loop-k.k c.loop-k-test.false)
