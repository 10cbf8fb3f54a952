use Rattle.std.proofs.Common.{◌*◌, Option, take, refl, ap}
use Rattle.line.specs.declared.Command.{Command}
use Rattle.interpreter.specs.Script.{run_command}
use Rattle.interpreter.specs.Feed.{next_line}
use Rattle.interpreter.specs.RunsLaws.{runs_as}
use Rattle.interpreter.specs.FeedLaws.{line-ends}
use Rattle.interpreter.proofs.lines.end_line.Goals as goal

pub returns : goal.returns
returns c =
    let a = c.args in
    let old = a.store.now in
    let number = next_line a.state.number in
    let ran = c.run_command-ran in
    let runs = runs_as
    (ap (λ (k : Option Command). run_command k number (take (512 * a.state.blocks) old)) c.pending_command-command.ensures)
    ran.ensures in
    record {
      output_value = line-ends a.used a.state old _ ran.result.blocks a.output.now _ ran.result.written number refl runs;
      blocks_le_script_blocks = runs.store.few;
    }
