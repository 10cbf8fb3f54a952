use Rattle.std.proofs.Common.{◌∙◌, arith}
use Rattle.journal.proofs.Parts.{rest_back}
use Rattle.index.proofs.written.put_images.Goals as goal

pub returns : goal.returns
returns c = rest_back c.args.plan.now 1536 4096 (omega arith) _ ∙ c.copy_from_slice.ensures.after
