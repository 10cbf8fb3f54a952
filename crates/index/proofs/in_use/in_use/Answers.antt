use Rattle.std.proofs.Common.{refl, sym}
use Rattle.outcomes.specs.Outcomes.{in_use_outcome}
use Rattle.index.proofs.in_use.in_use.Goals as goal

pub returns-then-not-check_length : goal.returns-then-not-check_length
unfolding in_use_outcome
returns-then-not-check_length c = rw (sym c.if-not-check_length.ensures) refl

pub returns-then-store_in_use : goal.returns-then-store_in_use
unfolding in_use_outcome
returns-then-store_in_use c = rw (sym c.if-not-check_length.ensures, sym c.if-store_in_use.ensures) refl

pub returns : goal.returns
unfolding in_use_outcome
returns c = rw (sym c.if-not-check_length.ensures, sym c.if-store_in_use.ensures) refl
