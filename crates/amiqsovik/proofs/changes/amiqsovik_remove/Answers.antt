use Rattle.amiqsovik.proofs.Told.{told-change}
use Rattle.amiqsovik.proofs.changes.amiqsovik_remove.Goals as goal

pub returns-clause-value : goal.returns-clause-value
returns-clause-value c = (told-change c.remove.ensures c.answer_word.ensures).0
