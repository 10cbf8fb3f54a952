use Rattle.std.proofs.Common.{◌≡◌, true, false, sym, ◌∙◌}
use Rattle.image.specs.Rules.{length_ok}
use Rattle.outcomes.specs.Outcomes.{verify_outcome}
use Rattle.verify.proofs.verify.Goals as goal

pub returns-then-not-check_length : goal.returns-then-not-check_length
unfolding verify_outcome
returns-then-not-check_length c =
    let bad : length_ok c.args.store.now ≡ false = sym c.check_length.ensures ∙ c.if-not-check_length.true in
    rw bad

pub returns : goal.returns
unfolding verify_outcome
returns c =
    let good : length_ok c.args.store.now ≡ true = sym c.check_length.ensures ∙ c.if-not-check_length.false in
    rw good c.judge.ensures
