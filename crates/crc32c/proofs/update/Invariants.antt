use Rattle.std.proofs.Common.{◌≡◌, ◌≤◌, ◌*◌, length, drop}
use Rattle.std.specs.Slice.Iter.{chunks_exact_rest, chunks_exact_size}
use Rattle.crc32c.specs.Crc.{crc_bytes}
use Rattle.crc32c.proofs.update.Given as goal

abbrev pub invariant-loop-four : goal.invariant-loop-four
invariant-loop-four l =
    record {
      size : chunks_exact_size l.four-iterator ≡ 4;
      inside : 4 * length l.yielded ≤ length l.s;
      place : chunks_exact_rest l.four-iterator ≡ drop (4 * length l.yielded) l.s;
      state : crc_bytes l.c l.s ≡ crc_bytes l.state (drop (4 * length l.yielded) l.s);
    }

abbrev pub invariant-loop-byte : goal.invariant-loop-byte
invariant-loop-byte l = crc_bytes l.c l.s ≡ crc_bytes l.state (drop l.byte-index l.rest)
