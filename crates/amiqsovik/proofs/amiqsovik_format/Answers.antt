use Rattle.std.proofs.Common.{ap, ◌∙◌}
use Rattle.amiqsovik.specs.Words.{answer_word}
use Rattle.amiqsovik.proofs.amiqsovik_format.Goals as goal

pub returns-clause-value : goal.returns-clause-value
returns-clause-value c = c.answer_word.ensures ∙ ap answer_word c.format.ensures.value
