use Rattle.std.proofs.Common.{◌≡◌, ℕ, zero, suc, ◌+◌, ◌-◌, ◌≤◌, List, length, take, drop, refl, sym, ap, ◌∙◌, arith, length-drop, drop_of_length-le, take-append-drop, take_all, length-take-le, drop-drop}
use Rattle.text.specs.Text.{line_output}
use Rattle.interpreter.specs.Machine.{State, Reached, on_bytes, state_of, ran_as}
use Rattle.interpreter.specs.MachineLaws.{on_bytes-append}
use Rattle.script.proofs.run_piece.Goals as goal

-- lines that used nothing wrote nothing, and left room for one
progress : (u w : ℕ) (rest out : List ℕ) (s : State) → take w out ≡ (on_bytes s (take u rest)).text → w ≤ length out
    → (w + line_output ≤ length out → u ≡ length rest) → line_output ≤ length out → 1 ≤ length rest → 1 ≤ u
progress zero w rest out s e h stop o some =
    let none : length (take w out) ≡ 0 = ap length e in
    let all : 0 ≡ length rest = stop (omega (arith, none, length-take-le w out h, o)) in
    absurd (omega (arith, all, some))
progress (suc u) w rest out s e h stop o some = omega arith

-- the rest, from the state after some of the bytes
rest-state : (s : State) (rest : List ℕ) (u : ℕ) (q : Reached) → q ≡ on_bytes s (take u rest)
    → (on_bytes s rest).state ≡ (on_bytes q.state (drop u rest)).state
rest-state s rest u q e =
    ap (λ (l : List ℕ). (on_bytes s l).state) (sym (take-append-drop u rest))
    ∙ ap (λ (r : Reached). r.state) (on_bytes-append s (take u rest) (drop u rest))
    ∙ ap (λ (r : Reached). (on_bytes r.state (drop u rest)).state) (sym e)

-- what run_lines was lent is the rest of the piece
whole : (piece : List ℕ) (from : ℕ) → take (length piece - from) (drop from piece) ≡ drop from piece
whole piece from = take_all (length piece - from) (drop from piece) (omega (arith, length-drop from piece))

-- what run_lines answered for the rest of a piece: the rest goes on from there
module _ (piece out : List ℕ) (from used written : ℕ) (s : State) (q : Reached)
    (ran : q ≡ on_bytes s (take used (take (length piece - from) (drop from piece)))) where
  ran-rest : q ≡ on_bytes s (take used (drop from piece))
  ran-rest = ran ∙ ap (λ (x : List ℕ). on_bytes s (take used x)) (whole piece from)

  left : (on_bytes s (drop from piece)).state ≡ (on_bytes q.state (drop (from + used) piece)).state
  left =
      rest-state s (drop from piece) used q ran-rest
      ∙ ap (λ (x : List ℕ). (on_bytes q.state x).state) (drop-drop used from piece)

  some : take written out ≡ q.text → written ≤ length out
      → (written + line_output ≤ length out → used ≡ length (take (length piece - from) (drop from piece)))
      → line_output ≤ length out → from + 1 ≤ length piece → 1 ≤ used
  some e h stop o more =
      progress used written (drop from piece) out s (e ∙ ap (λ (r : Reached). r.text) ran-rest) h
      (λ k. stop k ∙ ap length (whole piece from)) o (omega (arith, length-drop from piece))

  inside : from ≤ length piece → used ≤ length (take (length piece - from) (drop from piece))
      → from + used ≤ length piece
  inside f u = let all = ap length (whole piece from) in omega (arith, length-drop from piece)

pub overflow_add-at : goal.overflow_add-at
overflow_add-at c =
    let l = c.loop-at in
    let r = c.run_lines-ran in
    let text = take r.result.written r.new.output in
    let fits = inside c.args.piece.now r.new.output l.at r.result.used r.result.written (state_of l.held l.store)
    (ran_as r.result.state r.new.store text) r.ensures.output_after l.invariant.within r.ensures.used_in_bounds in
    omega (arith, c.well_formed)

pub loop-at-smaller : goal.loop-at-smaller
loop-at-smaller c =
    let l = c.loop-at in
    let r = c.run_lines-ran in
    let piece = c.args.piece.now in
    let text = take r.result.written r.new.output in
    let fits = inside piece r.new.output l.at r.result.used r.result.written (state_of l.held l.store)
    (ran_as r.result.state r.new.store text) r.ensures.output_after l.invariant.within r.ensures.used_in_bounds in
    let more = some piece r.new.output l.at r.result.used r.result.written (state_of l.held l.store)
    (ran_as r.result.state r.new.store text) r.ensures.output_after refl r.ensures.written_in_bounds
    r.ensures.used_value (omega (arith, c.requires.line_output_in_bounds)) (omega arith) in
    omega arith

pub loop-at-preserved : goal.loop-at-preserved
loop-at-preserved c =
    let l = c.loop-at in
    let r = c.run_lines-ran in
    let piece = c.args.piece.now in
    let text = take r.result.written r.new.output in
    let q = ran_as r.result.state r.new.store text in
    record {
      within = inside piece r.new.output l.at r.result.used r.result.written (state_of l.held l.store) q
          r.ensures.output_after l.invariant.within r.ensures.used_in_bounds;
      serves = r.ensures.serves;
      left = l.invariant.left
          ∙ left piece r.new.output l.at r.result.used r.result.written (state_of l.held l.store) q
          r.ensures.output_after;
    }

pub returns : goal.returns
returns c =
    let l = c.loop-at in
    let none = drop_of_length-le c.args.piece.now c.loop-at-test.false in
    record {
      serves_2 = l.invariant.serves;
      store_after = sym (l.invariant.left ∙ ap (λ (x : List ℕ). (on_bytes (state_of l.held l.store) x).state) none);
    }
