use Rattle.std.proofs.Common.{◌≡◌, ◌&&◌, drop}
use Rattle.store.specs.Store.{covered}
use Rattle.draft.specs.Trim.{alike}
use Rattle.draft.proofs.trim.same_bytes.Given as goal

abbrev pub invariant-loop-i : goal.invariant-loop-i
invariant-loop-i l =
    alike (covered l.a) (covered l.b) ≡ l.same && alike (drop l.i (covered l.a)) (drop l.i (covered l.b))
