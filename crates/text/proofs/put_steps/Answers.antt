use Rattle.text.specs.Text.{steps_text}
use Rattle.text.proofs.put_steps.Goals as goal

pub returns : goal.returns
unfolding steps_text
returns c = c.put_two.ensures
