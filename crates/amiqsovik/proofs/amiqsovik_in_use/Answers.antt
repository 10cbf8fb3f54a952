use Rattle.std.proofs.Common.{ap, ◌∙◌}
use Rattle.amiqsovik.specs.Words.{answer_word}
use Rattle.amiqsovik.proofs.amiqsovik_in_use.Goals as goal

pub returns : goal.returns
returns c = c.answer_word.ensures ∙ ap answer_word c.in_use.ensures
