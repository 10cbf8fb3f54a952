use Rattle.std.proofs.Common.{ap, sym, ◌∙◌}
use Rattle.address.specs.declared.BlockRole.{BlockRole}
use Rattle.image.specs.Rules.{fits}
use Rattle.reader.specs.Roles.{as_role}
use Rattle.shape.proofs.roles.fits_role.Goals as goal

pub returns-in-Meta : goal.returns-in-Meta
unfolding fits
returns-in-Meta c =
    c.is_unlinked.ensures ∙ sym (ap (λ (r : BlockRole). fits c.args.max (as_role r) c.args.part.now) c.in-Meta.is)

pub returns-in-Bucket : goal.returns-in-Bucket
returns-in-Bucket c =
    c.fits_bucket.ensures ∙ sym (ap (λ (r : BlockRole). fits c.args.max (as_role r) c.args.part.now) c.in-Bucket.is)

pub returns-in-Bit : goal.returns-in-Bit
returns-in-Bit c =
    c.fits_bit.ensures ∙ sym (ap (λ (r : BlockRole). fits c.args.max (as_role r) c.args.part.now) c.in-Bit.is)

pub returns-in-Unmade : goal.returns-in-Unmade
unfolding fits
returns-in-Unmade c =
    c.is_unused.ensures ∙ sym (ap (λ (r : BlockRole). fits c.args.max (as_role r) c.args.part.now) c.in-Unmade.is)
