use Rattle.std.proofs.Common.{None, ◌*◌, ◌+◌, ◌≡◌}
use Rattle.chain.specs.Bitmap.{lowest_free}
use Rattle.chain.specs.BitmapLaws.{free_from}
use Rattle.chain.proofs.bitmap.search_free.Given as goal

abbrev pub invariant-loop-j : goal.invariant-loop-j
invariant-loop-j l = record { unset : l.free ≡ None; sought : lowest_free l.map ≡ free_from l.map (8 * l.i + l.j) }

abbrev pub invariant-bytes : goal.invariant-bytes
invariant-bytes l = record { unset : l.free ≡ None; sought : lowest_free l.map ≡ free_from l.map (8 * l.i) }
