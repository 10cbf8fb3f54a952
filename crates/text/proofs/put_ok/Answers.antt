use Rattle.text.specs.Text.{ok_text}
use Rattle.text.proofs.put_ok.Goals as goal

pub returns : goal.returns
unfolding ok_text
returns c = c.put_bytes.ensures
