-- Calls of feed and finish from a state that a script can have: each is the machine on the bytes that it used.
use Rattle.std.specs.Prelude.{◌≡◌, ℕ, zero, suc, ◌*◌, ◌≤◌, Bool, true, false, cond, List, [], ◌∷◌, length, take, drop, nat_le, nat_lt, refl, Option, None}
use Rattle.std.proofs.Common.{sym, ap, ◌∙◌, subst, arith, length-append, length-drop, take_at}
use Rattle.std.proofs.Math.Seq.{take-append_seam, length-sets}
use Rattle.lists.specs.Block.{blocks}
use Rattle.line.specs.declared.Command.{Command}
use Rattle.line.specs.Words.{span}
use Rattle.line.specs.Command.{max_line, read_line}
use Rattle.line.proofs.FitsLaws.{CommandFits, line-fits}
use Rattle.text.specs.Text.{line_output}
use Rattle.interpreter.specs.declared.ScriptState.{ScriptState}
use Rattle.interpreter.specs.Script.{Turn, run_command}
use Rattle.interpreter.specs.Feed.{gathered, ready, Feeding, still, pending_command, next_line}
use Rattle.interpreter.specs.Feed.{line_turn, over, next_state, line_ends, feed_outcome, finish_outcome}
use Rattle.interpreter.specs.Machine.{short, long, command_at, State, Reached, end_line, on_bytes, end_in}
use Rattle.interpreter.specs.Machine.{at_end, pending_in, state_of, ran_as}
use Rattle.interpreter.specs.HeldLaws.{Gathered, up_to, gather-is, line_run, gather-run}
use Rattle.interpreter.specs.FeedLaws.{room-ready, feed-ready, finish-still, finish-ended}
use Rattle.interpreter.specs.Stores.{ScriptStore, Serves}
use Rattle.interpreter.specs.StoresLaws.{store-after, store-size}

-- a call's answer as a run of the machine
abbrev pub ran_in : Feeding → Reached
ran_in f = ran_as f.fed.state f.store (take f.fed.written f.output)

-- ---- the end of a line

pending-command : (c : ScriptState) → pending_command c ≡ command_at (pending_in c)
pending-command c = go (nat_le c.seen max_line)
  where
    go : (t : Bool) → cond t (read_line (take c.seen c.line)) None
        ≡ command_at (cond t (short (take c.seen c.line)) long)
    go true = refl
    go false = refl

pending-fits : (c : ScriptState) → CommandFits (pending_command c)
pending-fits c = go (nat_le c.seen max_line)
  where
    go : (t : Bool) → CommandFits (cond t (read_line (take c.seen c.line)) None)
    go true = line-fits (take c.seen c.line)
    go false = tt

module _ (c : ScriptState) (store : List ℕ) (v : Serves c store) where
  abbrev turn : Turn
  turn = line_turn c store

  stands : ScriptStore turn.store
  stands =
      store-after (pending_command c) (pending-fits c) (next_line c.number) (take (512 * c.blocks) store)
      v.stands

  -- the first N blocks of the store afterwards
  standing : take (512 * blocks turn.store) (over turn.store store) ≡ turn.store
  standing =
      take_at turn.store (drop (length turn.store) store) (512 * blocks turn.store)
      (store-size turn.store stands).0

  ended-serves : Serves (next_state c turn.store) (over turn.store store)
  ended-serves =
      let size = store-size turn.store stands in
      record {
        seen = omega arith;
        whole = v.whole;
        few = size.1;
        room =
            simp (length-append, length-drop) (omega (arith, v.room, size.0, size.1));
        stands = subst ScriptStore (sym standing) stands;
      }

  ended-run : (n : ℕ) (out : List ℕ) → ran_in (line_ends n c store out) ≡ end_line (state_of c store)
  ended-run n out =
      ap (λ (s : List ℕ). made s (take (length turn.text) (over turn.text out))) standing
      ∙ ap (made turn.store) (take-append_seam turn.text (drop (length turn.text) out))
      ∙ ap (λ (k : Option Command). let t = run_command k (next_line c.number) (take (512 * c.blocks) store) in
      made t.store t.text) (pending-command c)
    where
      made : List ℕ → List ℕ → Reached
      made s t = record { state = record { pending = short []; line = next_line c.number; store = s }; text = t }

-- ---- feed and finish

module _ (c : ScriptState) (store : List ℕ) (v : Serves c store) where
  pub serves-ready : (out : List ℕ) → line_output ≤ length out → ready c store out ≡ true
  serves-ready out o = room-ready c store out v.seen (record { few = v.few; store = v.room; output = o })

  gathered-serves : (bs : List ℕ) → Serves (gathered c bs) store
  gathered-serves bs =
      record {
        seen = omega arith;
        whole = length-sets c.line c.seen bs ∙ v.whole;
        few = v.few;
        room = v.room;
        stands = v.stands;
      }

  module _ (input out : List ℕ) (o : line_output ≤ length out) where
    -- the bytes before the first LF, and the state with them
    abbrev n : ℕ
    n = span 10 input

    abbrev g : ScriptState
    g = gathered c (take n input)

    abbrev by : Bool → Feeding
    by u = cond u (line_ends (suc n) g store out) (still true n g store out)

    is : feed_outcome c store input out ≡ by (nat_lt n (length input))
    is = feed-ready c store input out (serves-ready out o)

    pub feed-serves : let f = feed_outcome c store input out in Serves f.fed.state f.store
    feed-serves =
        subst (λ (f : Feeding). Serves f.fed.state f.store) (sym is) (go (nat_lt n (length input)))
      where
        go : (u : Bool) → Serves (by u).fed.state (by u).store
        go true = ended-serves g store (gathered-serves (take n input))
        go false = gathered-serves (take n input)

    pub feed-run : let f = feed_outcome c store input out in
        ran_in f ≡ on_bytes (state_of c store) (take f.fed.used input)
    feed-run =
        subst (λ (f : Feeding). ran_in f ≡ on_bytes (state_of c store) (take f.fed.used input)) (sym is)
        (go (nat_lt n (length input)) run)
      where
        run : on_bytes (state_of c store) (take (up_to c input n).used input)
            ≡ line_run (up_to c input n).ended (state_of (up_to c input n).state store)
        run =
            subst
            (λ (x : Gathered).
            on_bytes (state_of c store) (take x.used input) ≡ line_run x.ended (state_of x.state store))
            (gather-is c input v.whole v.seen) (gather-run store c input v.whole)

        go : (u : Bool) → on_bytes (state_of c store) (take (cond u (suc n) n) input) ≡ line_run u (state_of g store)
            → ran_in (by u) ≡ on_bytes (state_of c store) (take (by u).fed.used input)
        go true e = ended-run g store (gathered-serves (take n input)) (suc n) out ∙ sym e
        go false e = sym e

  module _ (out : List ℕ) (o : line_output ≤ length out) where
    pub finish-run : ran_in (finish_outcome c store out) ≡ at_end (state_of c store)
    finish-run = go c.seen refl
      where
        some : (k : ℕ) (l : List ℕ) (s : State) → 1 ≤ length l → end_in (short (take (suc k) l)) s ≡ end_line s
        some k [] s h = absurd (omega arith)
        some k (x ∷ xs) s h = refl

        line : (t : Bool) (k : ℕ) → end_in (cond t (short (take (suc k) c.line)) long) (state_of c store)
            ≡ end_line (state_of c store)
        line true k = some k c.line (state_of c store) (omega (arith, v.whole))
        line false k = refl

        go : (k : ℕ) → c.seen ≡ k → ran_in (finish_outcome c store out) ≡ at_end (state_of c store)
        go zero e =
            ap ran_in (finish-still c store out (serves-ready out o) e)
            ∙ ap (λ (k : ℕ). end_in (cond (nat_le k max_line) (short (take k c.line)) long) (state_of c store)) (sym e)
        go (suc k) e =
            ap ran_in (finish-ended c store out (serves-ready out o) (omega arith))
            ∙ ended-run c store v 0 out
            ∙ sym (line (nat_le (suc k) max_line) k)
            ∙ ap (λ (k : ℕ). end_in (cond (nat_le k max_line) (short (take k c.line)) long) (state_of c store)) (sym e)
