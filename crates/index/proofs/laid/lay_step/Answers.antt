use Rattle.std.proofs.Common.{refl}
use Rattle.index.specs.SoundLaws.{advances-alters}
use Rattle.index.specs.LaidLaws.{advances-laid, advances-stopped}
use Rattle.index.proofs.laid.lay_step.Goals as goal

pub lay_change-stores-requires-clause-sound : goal.lay_change-stores-requires-clause-sound
lay_change-stores-requires-clause-sound g c = (c.requires.sound, advances-alters c.plan-step.ensures.advances)

pub returns-in-Err : goal.returns-in-Err
returns-in-Err g c =
    let l = c.lay_change-stores.ensures in
    advances-stopped c.args.store.now _ _ c.args.buffer.now _ _ l.value l.buffer_after _ refl
    c.plan-step.ensures.advances _ c.in-Err.is

pub returns-in-Ok : goal.returns-in-Ok
returns-in-Ok g c =
    let l = c.lay_change-stores.ensures in
    advances-laid c.args.store.now _ _ c.args.buffer.now _ _ l.value l.buffer_after _ refl
    c.plan-step.ensures.advances c.in-Ok.is
