use Rattle.store.specs.TrailerLaws.{sets-trailer}
use Rattle.store.proofs.put_trailer.Goals as goal

pub returns : goal.returns
returns c = rw (← sets-trailer) (cc)
