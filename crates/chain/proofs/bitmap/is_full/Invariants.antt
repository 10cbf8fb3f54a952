use Rattle.std.proofs.Common.{get_or, true, ℕ, ◌<◌, ◌≡◌}
use Rattle.chain.proofs.bitmap.is_full.Given as goal

abbrev pub invariant-loop-byte : goal.invariant-loop-byte
invariant-loop-byte l = l.full ≡ true → (k : ℕ) → k < l.byte-index → get_or l.byte-items k 0 ≡ 255
