-- The numbers of the words so far, and the words that are left.
use Rattle.std.proofs.Common.{◌≡◌, length, drop}
use Rattle.line.specs.declared.Fields.{Fields}
use Rattle.line.specs.Words.{words}
use Rattle.line.specs.Command.{fields_from}
use Rattle.line.proofs.words.read_fields.Given as goal

abbrev pub invariant-loop-word : goal.invariant-loop-word
invariant-loop-word l =
    fields_from Fields.None (words l.line) ≡ fields_from l.fields (drop (length l.yielded) (words l.line))
