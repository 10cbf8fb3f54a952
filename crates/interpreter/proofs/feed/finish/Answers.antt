use Rattle.std.proofs.Common.{sym, ◌∙◌, arith}
use Rattle.interpreter.specs.FeedLaws.{ready-room, ready-next, finish-unready, finish-still, finish-ended}
use Rattle.interpreter.proofs.feed.finish.Goals as goal

pub returns-then-not-is_ready : goal.returns-then-not-is_ready
returns-then-not-is_ready c =
    let a = c.args in
    let no = sym c.if-not-is_ready.ensures in
    record { output_value = finish-unready a.state a.store.now a.output.now no; ready_value = sym no }

pub returns-then-state-eq0 : goal.returns-then-state-eq0
returns-then-state-eq0 c =
    let a = c.args in
    let fit = sym c.if-not-is_ready.ensures in
    record { output_value = finish-still a.state a.store.now a.output.now fit (omega arith); ready_value = sym fit }

pub end_line-requires : goal.end_line-requires
end_line-requires c =
    let a = c.args in ready-room a.state a.store.now a.output.now (sym c.if-not-is_ready.ensures)

pub returns : goal.returns
returns c =
    let a = c.args in
    let n = c.end_line in
    let fit = sym c.if-not-is_ready.ensures in
    record {
      output_value = finish-ended a.state a.store.now a.output.now fit (omega arith) ∙ n.ensures.output_value;
      ready_value = ready-next 0 a.state a.store.now a.output.now n.result n.new.store n.new.output fit
          n.ensures.output_value n.ensures.blocks_le_script_blocks n.auto.store n.auto.output;
    }
