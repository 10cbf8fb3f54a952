use Rattle.std.proofs.Math.Option.{none, some}
use Rattle.journal.specs.Journal.{disk}
use Rattle.journal.specs.HoldsLaws.{look_at_lem}
use Rattle.journal.proofs.recovery.look_part.Goals as goal

pub returns-in-Some : goal.returns-in-Some
returns-in-Some c =
    cc (look_at_lem (disk c.args.store.now c.args.journal.now) c.args.k (some c.in-Some.i) c.in-Some.ensures.1)

pub returns-in-None : goal.returns-in-None
returns-in-None c =
    cc (look_at_lem (disk c.args.store.now c.args.journal.now) c.args.k none c.in-None.ensures)
