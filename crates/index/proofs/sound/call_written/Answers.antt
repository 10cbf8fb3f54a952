use Rattle.index.specs.SoundLaws.{settles-alters, settles-journalled}
use Rattle.index.proofs.sound.call_written.Goals as goal

pub write_change-requires-clause-sound : goal.write_change-requires-clause-sound
write_change-requires-clause-sound g c = (c.requires.0, settles-alters c.plan-answer.ensures)

pub returns : goal.returns
returns g c = settles-journalled c.plan-answer.ensures _ _ c.write_change.ensures.images_value
