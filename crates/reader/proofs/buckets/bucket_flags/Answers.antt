use Rattle.std.proofs.Common.{ap, length, ◌∙◌}
use Rattle.store.specs.Store.{flags_at}
use Rattle.reader.specs.KnownLaws.{bucket-full}
use Rattle.reader.proofs.buckets.bucket_flags.Goals as goal

pub flags_at-requires : goal.flags_at-requires
flags_at-requires c = ap length c.bucket_page.ensures ∙ bucket-full c.requires.0 c.args.b c.requires.1

pub returns : goal.returns
returns c = c.flags_at.ensures ∙ ap flags_at c.bucket_page.ensures
