use Rattle.std.proofs.Common.{◌≡◌, ◌+◌, true, length, take, sym, ap, ◌∙◌, subst, rules}
use Rattle.interpreter.specs.declared.ScriptState.{ScriptState}
use Rattle.interpreter.specs.Feed.{ready, still, line_ends}
use Rattle.interpreter.specs.Runs.{Room}
use Rattle.interpreter.specs.FeedLaws.{folded-ready, folded-room, ready-next, feed-unready, feed-line, feed-part}
use Rattle.interpreter.proofs.feed.feed.Goals as goal

pub returns-then-not-is_ready : goal.returns-then-not-is_ready
returns-then-not-is_ready c =
    let a = c.args in
    let no = sym c.if-not-is_ready.ensures in
    record { output_value = feed-unready a.state a.store.now a.input.now a.output.now no; ready_value = sym no }

pub returns-in_default : goal.returns-in_default
returns-in_default c =
    let a = c.args in
    let store = a.store.now in
    let input = a.input.now in
    let out = a.output.now in
    let whole : length a.state.line ≡ 80 = search rules in
    let fit = sym c.if-not-is_ready.ensures in
    let same = sym c.keep-held.ensures in
    record {
      output_value = feed-part a.state store input out whole fit (sym c.find_lf.ensures ∙ c.in_default.is)
          ∙ ap (λ (s : ScriptState). still true (length input) s store out) same;
      ready_value = subst (λ (s : ScriptState). true ≡ ready s store out) same
          (sym (folded-ready a.state store input out whole fit input));
    }

pub end_line-requires : goal.end_line-requires
end_line-requires c =
    let a = c.args in
    let whole : length a.state.line ≡ 80 = search rules in
    subst (λ (s : ScriptState). Room s.blocks a.store.now a.output.now) (sym c.keep-line.ensures)
    (folded-room a.state a.store.now a.input.now a.output.now whole (sym c.if-not-is_ready.ensures)
    (take c.in-Some.n a.input.now))

pub returns : goal.returns
returns c =
    let a = c.args in
    let store = a.store.now in
    let input = a.input.now in
    let out = a.output.now in
    let n = c.in-Some.n in
    let e = c.end_line in
    let whole : length a.state.line ≡ 80 = search rules in
    let fit = sym c.if-not-is_ready.ensures in
    let same = sym c.keep-line.ensures in
    let held = subst (λ (s : ScriptState). ready s store out ≡ true) same
    (folded-ready a.state store input out whole fit (take n input)) in
    record {
      output_value = feed-line a.state store input out whole fit n (sym c.find_lf.ensures ∙ c.in-Some.is)
          ∙ ap (λ (s : ScriptState). line_ends (n + 1) s store out) same ∙ e.ensures.output_value;
      ready_value = ready-next (n + 1) c.keep-line.result store out e.result e.new.store e.new.output held
          e.ensures.output_value e.ensures.blocks_le_script_blocks e.auto.store e.auto.output;
    }
