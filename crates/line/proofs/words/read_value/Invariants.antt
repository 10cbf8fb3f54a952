-- The value of the digits so far, and the digits that are left.
use Rattle.std.proofs.Common.{◌≡◌, ◌≤◌, drop}
use Rattle.line.specs.Words.{max_number, value_from}
use Rattle.line.proofs.words.read_value.Given as goal

abbrev pub invariant-loop-byte : goal.invariant-loop-byte
invariant-loop-byte l =
    (l.value ≤ max_number) × (value_from 0 l.word ≡ value_from l.value (drop l.byte-index l.word))
