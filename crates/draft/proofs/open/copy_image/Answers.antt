use Rattle.std.proofs.Common.{◌∙◌}
use Rattle.draft.proofs.Moving.{image-copied}
use Rattle.draft.proofs.open.copy_image.Goals as goal

pub returns : goal.returns
returns c = c.copy_within.ensures.after ∙ image-copied c.args.images.now c.args.from c.args.to
