use Rattle.std.proofs.Common.{arith}
use Rattle.reader.specs.KnownLaws.{max-is}
use Rattle.entries.proofs.Homing.{copying-made}
use Rattle.entries.proofs.places.check_marks.Goals as goal

pub check_copies-requires : goal.check_copies-requires
check_copies-requires c =
    let two = c.requires.known5.known.known.known in
    let made =
    copying-made c.args.store.now two c.args.phase c.requires.phase_value c.in-Copying.old c.in-Copying.new c.in-Copying.is in
    (c.requires.known5, omega (arith, made.new-made, max-is two), omega (arith, made.old-made, max-is two))
