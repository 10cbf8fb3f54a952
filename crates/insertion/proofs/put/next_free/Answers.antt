use Rattle.std.proofs.Common.{ap, ◌∙◌}
use Rattle.chain.specs.Bitmap.{free_or, lowest_free}
use Rattle.insertion.specs.FreeLaws.{put_byte}
use Rattle.insertion.proofs.put.next_free.Goals as goal

pub returns : goal.returns
returns c =
    c.unwrap_or.ensures
    ∙ ap (free_or c.args.top) (c.lowest_free.ensures ∙ ap lowest_free (put_byte _ _ c.args.n c.copy_from_slice.ensures.after))
