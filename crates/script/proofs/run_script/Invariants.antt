-- The state and the store are those of a script.
use Rattle.interpreter.specs.Stores.{Serves}
use Rattle.script.proofs.run_script.Given as goal

abbrev pub invariant-loop : goal.invariant-loop
invariant-loop l = Serves l.state l.store
