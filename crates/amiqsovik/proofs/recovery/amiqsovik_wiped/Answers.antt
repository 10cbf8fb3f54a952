use Rattle.std.proofs.Common.{ap, ◌∙◌}
use Rattle.amiqsovik.specs.Words.{answer_word}
use Rattle.amiqsovik.proofs.recovery.amiqsovik_wiped.Goals as goal

pub returns : goal.returns
returns c = c.answer_word.ensures ∙ ap answer_word c.wiped.ensures
