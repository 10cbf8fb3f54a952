-- What a caller of feed and finish knows: of an answer, of lines that are written one after the other, of a list
-- of calls.
use Rattle.std.specs.Prelude.{◌≡◌, ℕ, suc, ◌+◌, ◌≤◌, Bool, true, false, cond, List, [], ◌∷◌, ◌++◌, length, take, drop, ◌==◌, nat_lt, refl}
use Rattle.std.proofs.Common.{sym, ap, ◌∙◌, subst, append-nil, arith, ltb-true, ltb-false, length-append, take-add, length-take-le}
use Rattle.std.proofs.lemmas.List.{length-replicate}
use Rattle.std.proofs.Math.Seq.{take-append-add}
use Rattle.lists.specs.Lists.{Each}
use Rattle.line.specs.Words.{span}
use Rattle.line.specs.WordsLaws.{span-le}
use Rattle.line.specs.Command.{max_line}
use Rattle.text.specs.Text.{line_output}
use Rattle.interpreter.specs.declared.ScriptState.{ScriptState}
use Rattle.interpreter.specs.declared.Fed.{Fed}
use Rattle.interpreter.specs.Feed.{start_state, gathered, store_bytes, ready, Feeding, fed_as, still, line_turn}
use Rattle.interpreter.specs.Feed.{line_ends, feed_outcome, finish_outcome, Lent, feeds}
use Rattle.interpreter.specs.Machine.{State, Reached, on_bytes, on_pieces, state_of, ran_as}
use Rattle.interpreter.specs.MachineLaws.{on_bytes-append, on_pieces-joined}
use Rattle.interpreter.specs.FeedLaws.{feed-ready}
use Rattle.interpreter.specs.FedLaws.{ran_in, serves-ready, feed-serves, feed-run, finish-run}
use Rattle.interpreter.specs.Stores.{empty, Serves}

-- ---- an answer

-- what a line writes stands in the output
ends-fit : (n : ℕ) (c : ScriptState) (store out : List ℕ)
    → let f = line_ends n c store out in f.fed.written ≤ length f.output
ends-fit n c store out =
    let t = (line_turn c store).text in omega (arith, length-append t (drop (length t) out))

pub finish-written : (c : ScriptState) (store out : List ℕ) (r : Fed) (new after : List ℕ)
    → finish_outcome c store out ≡ fed_as r new after → r.written ≤ length after
unfolding finish_outcome
finish-written c store out r new after e =
    subst (λ (f : Feeding). f.fed.written ≤ length f.output) e (go (ready c store out) (c.seen == 0))
  where
    go : (y z : Bool)
        → let f = cond y (cond z (still true 0 c store out) (line_ends 0 c store out)) (still false 0 c store out) in
        f.fed.written ≤ length f.output
    go true true = omega arith
    go true false = ends-fit 0 c store out
    go false z = omega arith

-- how much of its input a feed used, and of its output
pub record Moves (input : List ℕ) (f : Feeding) : Type 0 where
  pub some : 1 ≤ length input → 1 ≤ f.fed.used
  pub used : f.fed.used ≤ length input
  pub written : f.fed.written ≤ length f.output

module _ (c : ScriptState) (store input out : List ℕ) (v : Serves c store) (o : line_output ≤ length out) (r : Fed)
    (new after : List ℕ) (e : feed_outcome c store input out ≡ fed_as r new after) where
  pub fed-serves : Serves r.state new
  fed-serves =
      subst (λ (f : Feeding). Serves f.fed.state f.store) e (feed-serves c store v input out o)

  -- the bytes before the first LF, and the state with them
  abbrev n : ℕ
  n = span 10 input

  abbrev g : ScriptState
  g = gathered c (take n input)

  pub fed-moves : Moves input (fed_as r new after)
  fed-moves =
      subst (Moves input) (sym (feed-ready c store input out (serves-ready c store v out o)) ∙ e)
      (go (nat_lt n (length input)) refl)
    where
      go : (u : Bool) → nat_lt n (length input) ≡ u
          → Moves input (cond u (line_ends (suc n) g store out) (still true n g store out))
      go true q =
          record {
            some = λ h. omega arith;
            used = omega (arith, ltb-true n (length input) q);
            written = ends-fit (suc n) g store out;
          }
      go false q =
          record {
            some = λ h. omega (arith, ltb-false n (length input) q);
            used = span-le 10 input;
            written = omega arith;
          }

  pub fed-run : ran_as r.state new (take r.written after) ≡ on_bytes (state_of c store) (take r.used input)
  fed-run =
      subst (λ (f : Feeding). ran_in f ≡ on_bytes (state_of c store) (take f.fed.used input)) e
      (feed-run c store v input out o)

-- ---- lines written one after the other

module _ (s : State) (piece out : List ℕ) (used written : ℕ) (c : ScriptState) (store : List ℕ)
    (before : ran_as c store (take written out) ≡ on_bytes s (take used piece)) (fits : written ≤ length out) where
  pub lines_more : (r : Fed) (new after : List ℕ)
      → ran_as r.state new (take r.written after) ≡ on_bytes (state_of c store) (take r.used (drop used piece))
      → ran_as r.state new (take (written + r.written) (take written out ++ after))
      ≡ on_bytes s (take (used + r.used) piece)
  lines_more r new after run =
      ap (ran_as r.state new)
      (ap (λ (k : ℕ). take (k + r.written) (take written out ++ after)) (sym (length-take-le written out fits))
      ∙ take-append-add (take written out) after r.written)
      ∙ ap (λ (q : Reached). record { state = q.state; text = take written out ++ q.text }) run
      ∙ ap
      (λ (p : Reached).
      let q = on_bytes p.state (take r.used (drop used piece)) in
      record { state = q.state; text = p.text ++ q.text })
      before
      ∙ sym (on_bytes-append s (take used piece) (take r.used (drop used piece)))
      ∙ ap (on_bytes s) (sym (take-add used r.used piece))

-- ---- lists of calls

pub start-serves : (store : List ℕ) → store_bytes ≤ length store → Serves start_state store
start-serves store h =
    record {
      seen = omega arith;
      whole = length-replicate {A = ℕ} max_line 0;
      few = omega arith;
      room = h;
      stands = empty;
    }

pub calls-run : (calls : List Lent) (last : List ℕ) (c : ScriptState) (store : List ℕ) → Serves c store
    → Each (λ (l : Lent). line_output ≤ length l.output) calls → line_output ≤ length last
    → let r = feeds c store calls last in r.text ≡ on_pieces (state_of c store) (r.used ∷ [])
calls-run [] last c store v o p = ap (λ (r : Reached). r.text) (finish-run c store v last p)
calls-run (l ∷ ls) last c store v o p =
    let f = feed_outcome c store l.input l.output in
    let r = feeds f.fed.state f.store ls last in
    let s = state_of c store in
    let u = take f.fed.used l.input in
    let run = feed-run c store v l.input l.output o.0 in
    let more =
    calls-run ls last f.fed.state f.store (feed-serves c store v l.input l.output o.0) o.1 p in
    ap (λ (q : Reached). q.text ++ r.text) run
    ∙ ap (λ (t : List ℕ). (on_bytes s u).text ++ t)
    (more ∙ ap (λ (q : Reached). on_pieces q.state (r.used ∷ [])) run)
    ∙ on_pieces-joined s (u ∷ r.used ∷ [])
    ∙ ap (λ (x : List ℕ). on_pieces s ((u ++ x) ∷ [])) (append-nil r.used)
