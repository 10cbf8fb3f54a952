use Rattle.amiqsovik.proofs.Told.{told-work}
use Rattle.amiqsovik.proofs.changes.amiqsovik_work.Goals as goal

pub returns-clause-value : goal.returns-clause-value
returns-clause-value c = (told-work c.work.ensures c.work_word.ensures).0
