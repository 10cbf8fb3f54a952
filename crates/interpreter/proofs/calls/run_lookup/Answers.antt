use Rattle.std.proofs.Common.{◌*◌, take, replicate, sym, refl, ap}
use Rattle.text.specs.TextLaws.{wrote_as}
use Rattle.model.specs.Calls.{Looked}
use Rattle.interpreter.specs.Script.{lookup_text, run_command}
use Rattle.interpreter.specs.RunsLaws.{stands-kept, lookup-roomy}
use Rattle.interpreter.proofs.calls.run_lookup.Goals as goal

pub put_looked-requires-clause-roomy : goal.put_looked-requires-clause-roomy
put_looked-requires-clause-roomy c =
    let found = c.lookup-answer in
    lookup-roomy (take (512 * c.args.blocks) c.args.store.now) c.args.hash (replicate 30000 0) found.new.output
    found.result refl found.auto.output (ap (λ (k : Looked). k.answer) found.ensures)

pub returns : goal.returns
unfolding run_command
returns c =
    record {
      store = stands-kept c.requires;
      text = wrote_as (ap (λ (k : Looked). lookup_text c.args.line k.answer k.output)
          (sym c.lookup-answer.ensures)) c.put_looked.ensures;
    }
