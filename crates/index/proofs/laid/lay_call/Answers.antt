use Rattle.index.specs.SoundLaws.{settles-alters}
use Rattle.index.specs.LaidLaws.{settles-laid, settles-declined}
use Rattle.index.proofs.laid.lay_call.Goals as goal

pub lay_change-stores-requires-clause-sound : goal.lay_change-stores-requires-clause-sound
lay_change-stores-requires-clause-sound g c = (c.requires.sound.0, settles-alters c.plan-answer.ensures)

pub returns-in-Err : goal.returns-in-Err
returns-in-Err g c =
    let l = c.lay_change-stores.ensures in
    settles-declined c.args.store.now _ _ c.args.buffer.now _ _ l.value l.buffer_after c.plan-answer.ensures _ c.in-Err.is

pub returns-in-Ok : goal.returns-in-Ok
returns-in-Ok g c =
    let l = c.lay_change-stores.ensures in
    settles-laid c.args.store.now _ _ c.args.buffer.now _ _ l.value l.buffer_after c.plan-answer.ensures c.in-Ok.is
