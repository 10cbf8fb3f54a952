use Rattle.text.specs.Text.{store_text}
use Rattle.text.proofs.put_store.Goals as goal

pub returns : goal.returns
unfolding store_text
returns c = c.put_two.ensures
