use Rattle.std.proofs.Common.{ap, ◌∙◌}
use Rattle.index.specs.Tested.{test_from}
use Rattle.index.specs.TestedLaws.{test-verdict}
use Rattle.index.proofs.tests.test_store.Goals as goal

pub returns : goal.returns
returns c = c.test_verdict.ensures ∙ ap test_from c.verify.ensures ∙ test-verdict c.args.store.now
