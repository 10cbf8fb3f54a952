use Rattle.text.specs.Text.{refused_text}
use Rattle.text.proofs.put_refused.Goals as goal

pub returns : goal.returns
unfolding refused_text
returns c = c.put_two.ensures
