use Rattle.std.proofs.Common.{rules}
use Rattle.index.specs.SoundLaws.{sound-first, settles-fits, settles-changed}
use Rattle.index.proofs.sound.insert_sound.Goals as goal

pub finish-requires-clause-fits : goal.finish-requires-clause-fits
finish-requires-clause-fits c = settles-fits c.plan_insert-answer.ensures

pub finish-requires-clause-in_bounds : goal.finish-requires-clause-in_bounds
finish-requires-clause-in_bounds c = (sound-first c.requires.0, search rules)

pub returns : goal.returns
returns c = settles-changed c.plan_insert-answer.ensures _ c.finish.ensures
