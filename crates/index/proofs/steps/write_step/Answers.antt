use Rattle.std.proofs.Common.{refl}
use Rattle.index.specs.SoundLaws.{advances-alters, advances-stepped, advances-leaves}
use Rattle.index.proofs.steps.write_step.Goals as goal

pub write_change-requires-clause-sound : goal.write_change-requires-clause-sound
write_change-requires-clause-sound g c = (c.requires.sound, advances-alters c.plan-next.ensures.advances)

pub returns-clause-stepped : goal.returns-clause-stepped
returns-clause-stepped g c =
    let w = c.write_change.ensures in
    advances-stepped _ c.requires.sound c.plan-next.ensures.advances refl _ _ w.images_value w.store_after

pub returns-clause-begins : goal.returns-clause-begins
returns-clause-begins g c =
    let e = c.plan-next.ensures in
    advances-leaves _ c.requires.sound e.advances refl _ c.write_change.ensures.store_after
    (g.P.Planner.begins c.args.planner.now) e.begins
