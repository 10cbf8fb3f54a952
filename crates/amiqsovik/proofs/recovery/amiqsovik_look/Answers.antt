use Rattle.std.proofs.Common.{ap, ◌∙◌}
use Rattle.amiqsovik.specs.Words.{place_word}
use Rattle.amiqsovik.proofs.recovery.amiqsovik_look.Goals as goal

pub returns : goal.returns
returns c = c.place_word.ensures ∙ ap place_word c.look_at.ensures
