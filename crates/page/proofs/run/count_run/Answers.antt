use Rattle.std.proofs.Common.{sym}
use Rattle.page.proofs.RunPartLaws.{length-run_entries}
use Rattle.page.proofs.run.count_run.Goals as goal

pub returns : goal.returns
returns c = sym (length-run_entries c.args.run.now)
