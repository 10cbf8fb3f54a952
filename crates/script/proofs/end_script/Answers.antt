use Rattle.std.proofs.Common.{sym, length-take-le}
use Rattle.interpreter.specs.CallsLaws.{finish-written}
use Rattle.script.proofs.end_script.Goals as goal

-- what finish wrote stands in the output
pub slice_bounds-put-end : goal.slice_bounds-put-end
slice_bounds-put-end c =
    let p = c.finish-fed in finish-written _ _ _ p.result p.new.store p.new.output p.ensures.output_value

pub slice_bounds-put-end-2 : goal.slice_bounds-put-end-2
slice_bounds-put-end-2 c =
    let p = c.finish-fed in
    sym (length-take-le p.result.written p.new.output
    (finish-written _ _ _ p.result p.new.store p.new.output p.ensures.output_value))
