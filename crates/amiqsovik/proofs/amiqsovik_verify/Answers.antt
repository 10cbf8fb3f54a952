use Rattle.std.proofs.Common.{ap, ◌∙◌}
use Rattle.amiqsovik.specs.Words.{verdict_word}
use Rattle.amiqsovik.proofs.amiqsovik_verify.Goals as goal

pub returns : goal.returns
returns c = c.verdict_word.ensures ∙ ap verdict_word c.verify.ensures
