use Rattle.std.proofs.Common.{sym, subst}
use Rattle.interpreter.specs.declared.ScriptState.{ScriptState}
use Rattle.interpreter.specs.Stores.{Serves}
use Rattle.interpreter.specs.CallsLaws.{start-serves}
use Rattle.script.proofs.run_script.Goals as goal

pub loop-init : goal.loop-init
loop-init c =
    let store = c.args.store.now in
    subst (λ (s : ScriptState). Serves s store) (sym c.start-state.ensures)
    (start-serves store c.requires.store_in_bounds)
