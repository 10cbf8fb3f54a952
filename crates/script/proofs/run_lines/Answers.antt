use Rattle.std.proofs.Common.{◌≡◌, ℕ, ◌+◌, ◌-◌, ◌≤◌, List, ◌++◌, length, take, drop, refl, sym, ap, ◌∙◌, subst, arith, append-nil, length-append, length-drop, drop_of_length-le, take_all, length-take-le}
use borrow.Rule.Slice.PartMut.{same_len_mid}
use Rattle.text.specs.Text.{line_output}
use Rattle.interpreter.specs.declared.ScriptState.{ScriptState}
use Rattle.interpreter.specs.declared.Fed.{Fed}
use Rattle.interpreter.specs.Machine.{State, on_bytes, state_of, ran_as}
use Rattle.interpreter.specs.Feed.{feed_outcome, fed_as}
use Rattle.interpreter.specs.Stores.{Serves}
use Rattle.interpreter.specs.CallsLaws.{Moves, fed-serves, fed-moves, fed-run, lines_more}
use Rattle.script.proofs.run_lines.Goals as goal

-- all from a place on
whole : (xs : List ℕ) (from : ℕ) → take (length xs - from) (drop from xs) ≡ drop from xs
whole xs from = take_all (length xs - from) (drop from xs) (omega (arith, length-drop from xs))

-- what lies past the part that feed was lent
put_rest : (w : ℕ) (out after : List ℕ)
    → take w out ++ (after ++ drop (length out - w) (drop w out)) ≡ take w out ++ after
put_rest w out after =
    ap (λ (x : List ℕ). take w out ++ (after ++ x))
    (drop_of_length-le (drop w out) {i = length out - w} (omega (arith, length-drop w out)))
    ∙ ap (λ (x : List ℕ). take w out ++ x) (append-nil after)

-- what feed gave of the rest of the piece, in the rest of the output
module _ (held : ScriptState) (store piece out : List ℕ) (used written : ℕ) (r : Fed) (new after : List ℕ)
    (serves : Serves held store) (test : used + 1 ≤ length piece) (room : written + line_output ≤ length out)
    (e : feed_outcome held store (take (length piece - used) (drop used piece))
    (take (length out - written) (drop written out)) ≡ fed_as r new after) where
  fed : feed_outcome held store (drop used piece) (drop written out) ≡ fed_as r new after
  fed =
      subst (λ (x : List ℕ). feed_outcome held store x (drop written out) ≡ fed_as r new after) (whole piece used)
      (subst
      (λ (x : List ℕ). feed_outcome held store (take (length piece - used) (drop used piece)) x ≡ fed_as r new after)
      (whole out written) e)

  left : line_output ≤ length (drop written out)
  left = omega (arith, length-drop written out)

  next-serves : Serves r.state new
  next-serves = fed-serves held store (drop used piece) (drop written out) serves left r new after fed

  moves : Moves (drop used piece) (fed_as r new after)
  moves = fed-moves held store (drop used piece) (drop written out) serves left r new after fed

  -- a byte at least, and none past the end
  some : 1 ≤ r.used
  some = moves.some (omega (arith, length-drop used piece))

  inside : used + r.used ≤ length piece
  inside = omega (arith, length-drop used piece, moves.used)

  grown : written + r.written ≤ length (take written out ++ after)
  grown =
      let first = length-take-le written out (omega arith) in
      omega (arith, length-append (take written out) after, moves.written)

  more : (s : State) → ran_as held store (take written out) ≡ on_bytes s (take used piece)
      → ran_as r.state new (take (written + r.written) (take written out ++ after))
      ≡ on_bytes s (take (used + r.used) piece)
  more s before =
      lines_more s piece out used written held store before (omega arith) r new after
      (fed-run held store (drop used piece) (drop written out) serves left r new after fed)

  -- the state serves, a byte was used at least, all is inside, and the run goes on
  step : Serves r.state new × (1 ≤ r.used) × (used + r.used ≤ length piece)
      × (written + r.written ≤ length (take written out ++ after))
      × ((s : State) → ran_as held store (take written out) ≡ on_bytes s (take used piece)
      → ran_as r.state new (take (written + r.written) (take written out ++ after))
      ≡ on_bytes s (take (used + r.used) piece))
  step = (next-serves, some, inside, grown, more)

pub overflow_add-used : goal.overflow_add-used
overflow_add-used c =
    let l = c.loop-used in
    let f = c.feed-fed in
    let s = step l.held l.store c.args.piece.now l.output l.used l.written f.result f.new.store f.new.output
    l.invariant.serves (omega arith) (omega arith) f.ensures.output_value in
    omega (arith, s.2, c.well_formed)

pub overflow_add-written : goal.overflow_add-written
overflow_add-written c =
    let l = c.loop-used in
    let f = c.feed-fed in
    let s = step l.held l.store c.args.piece.now l.output l.used l.written f.result f.new.store f.new.output
    l.invariant.serves (omega arith) (omega arith) f.ensures.output_value in
    let size = same_len_mid l.written (length l.output - l.written) l.output f.new.output f.auto.output in
    let all = ap length (put_rest l.written l.output f.new.output) in
    omega (arith, s.3, size, all, c.well_formed)

pub loop-used-smaller : goal.loop-used-smaller
loop-used-smaller c =
    let l = c.loop-used in
    let f = c.feed-fed in
    let s = step l.held l.store c.args.piece.now l.output l.used l.written f.result f.new.store f.new.output
    l.invariant.serves (omega arith) (omega arith) f.ensures.output_value in
    omega (arith, s.1, s.2)

pub loop-used-preserved : goal.loop-used-preserved
loop-used-preserved c =
    let l = c.loop-used in
    let f = c.feed-fed in
    let s = step l.held l.store c.args.piece.now l.output l.used l.written f.result f.new.store f.new.output
    l.invariant.serves (omega arith) (omega arith) f.ensures.output_value in
    let rest = put_rest l.written l.output f.new.output in
    record {
      used_within = s.2;
      written_within = subst (λ (x : List ℕ). l.written + f.result.written ≤ length x) (sym rest) s.3;
      serves = s.0;
      ran = ap (λ (x : List ℕ). ran_as f.result.state f.new.store (take (l.written + f.result.written) x)) rest
          ∙ s.4 (state_of c.args.state c.args.store.now) l.invariant.ran;
    }
