use Rattle.std.proofs.Common.{ap, ◌∙◌, length}
use Rattle.lists.specs.BlockLaws.{length-block}
use Rattle.image.specs.Decode.{read_meta}
use Rattle.index.specs.SoundLaws.{sound-first}
use Rattle.index.proofs.sound.read_fields.Goals as goal

pub block_at-requires : goal.block_at-requires
block_at-requires c = sound-first c.requires

pub read_meta-requires : goal.read_meta-requires
read_meta-requires c = ap length c.block_at.ensures ∙ length-block _ 0 (sound-first c.requires)

pub returns : goal.returns
returns c = c.read_meta.ensures ∙ ap read_meta c.block_at.ensures
