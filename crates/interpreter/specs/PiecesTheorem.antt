-- The main theorem. Take any list of calls of feed and a finish after them, begun with start and a store of 65,536
-- bytes or more; each feed is lent as many bytes of the script as its caller likes, and each call an output of 85,006
-- bytes or more. Then what the calls write, one after the other, is what document 01 says that a script of the bytes
-- that they used writes: however it is cut. The script has fewer than 2^64 bytes, so no line's number wraps.
-- That the functions give these outcomes is their contracts; by them a feed that is lent any bytes uses at least one.
use Rattle.std.specs.Prelude.{◌≡◌, ℕ, ◌^◌, ◌<◌, ◌≤◌, List, [], length}
use Rattle.std.proofs.Common.{◌∙◌, arith}
use Rattle.lists.specs.Lists.{Each}
use Rattle.text.specs.Text.{line_output}
use Rattle.interpreter.specs.Script.{script_output}
use Rattle.interpreter.specs.Feed.{start_state, store_bytes, Lent, feeds}
use Rattle.interpreter.specs.MachineLaws.{rest_lines}
use Rattle.interpreter.specs.CallsLaws.{start-serves, calls-run}

pub script-in-pieces : (store : List ℕ) (calls : List Lent) (last : List ℕ) → store_bytes ≤ length store
    → Each (λ (l : Lent). line_output ≤ length l.output) calls → line_output ≤ length last
    → let r = feeds start_state store calls last in length r.used < 2 ^ 64 → r.text ≡ script_output r.used
unfolding script_output
script-in-pieces store calls last m o p h =
    calls-run calls last start_state store (start-serves store m) o p
    ∙ rest_lines 0 [] [] (feeds start_state store calls last).used (omega arith)
