use Rattle.std.proofs.Common.{ap, eq-eqb, eqb, length, not, sym, ℕ, ◌∙◌}
use Rattle.lists.specs.Block.{block}
use Rattle.store.specs.Store.{flags_at}
use Rattle.image.specs.Rules.{overflow_as}
use Rattle.reader.specs.KnownLaws.{known-addressed, block-whole, block-full}
use Rattle.reader.specs.RolesLaws.{overflow-found, bit_found, overflow-first, overflow-later}
use Rattle.reader.proofs.roles.is_overflow.Goals as goal

pub role_at-requires : goal.role_at-requires
role_at-requires c = known-addressed c.requires

pub block_at-requires : goal.block_at-requires
block_at-requires c =
    block-whole c.requires c.args.k (bit_found c.requires c.args.k c.role_at.result c.role_at.ensures _ c.in-Bit.is)

pub flags_at-requires : goal.flags_at-requires
flags_at-requires c =
    let inside = bit_found c.requires c.args.k c.role_at.result c.role_at.ensures _ c.in-Bit.is in
    ap length c.block_at.ensures ∙ block-full c.requires c.args.k inside

pub returns-in-Meta : goal.returns-in-Meta
unfolding overflow_as
returns-in-Meta c = sym (overflow-found c.requires c.args.k c.role_at.result c.role_at.ensures _ c.in-Meta.is)

pub returns-in-Bucket : goal.returns-in-Bucket
unfolding overflow_as
returns-in-Bucket c = sym (overflow-found c.requires c.args.k c.role_at.result c.role_at.ensures _ c.in-Bucket.is)

pub returns-then-n-ne0 : goal.returns-then-n-ne0
returns-then-n-ne0 c =
    let l = block c.args.store.now c.args.k in
    ap (λ (x : ℕ). eqb x 1) (c.flags_at.ensures ∙ ap flags_at c.block_at.ensures)
    ∙ sym (overflow-later l _ c.if-n-ne0.true)
    ∙ sym (overflow-found c.requires c.args.k c.role_at.result c.role_at.ensures _ c.in-Bit.is)

pub returns-else-n-ne0 : goal.returns-else-n-ne0
returns-else-n-ne0 c =
    let l = block c.args.store.now c.args.k in
    let n = c.in-Bit.n in
    ap not (eq-eqb n 0 c.if-n-ne0.false)
    ∙ sym (overflow-found c.requires c.args.k c.role_at.result c.role_at.ensures _ c.in-Bit.is
    ∙ overflow-first l n c.if-n-ne0.false)

pub returns-in-Unmade : goal.returns-in-Unmade
unfolding overflow_as
returns-in-Unmade c = sym (overflow-found c.requires c.args.k c.role_at.result c.role_at.ensures _ c.in-Unmade.is)
