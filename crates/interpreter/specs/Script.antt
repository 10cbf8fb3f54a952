-- docs/RULES.md 8, "The script": from the bytes of a script to the bytes that it writes.
use Rattle.std.specs.Prelude.{ℕ, ◌+◌, ◌*◌, Bool, true, false, Option, Some, None, List, [], ◌∷◌, ◌++◌, replicate, nat_le}
use Rattle.std.specs.Prelude.{Ok, Err}
use Rattle.line.specs.declared.Command.{Command}
use Rattle.line.specs.Words.{parts}
use Rattle.line.specs.Command.{read_line}
use Rattle.text.specs.Text.{store_text, ok_text, refused_text, steps_text, found_text}
use Rattle.model.specs.declared.Order.{Order}
use Rattle.model.specs.Answers.{Answer, LookupAnswer, WorkAnswer, refusal_no, stop_no}
use Rattle.model.specs.Calls.{order_of}
use Rattle.outcomes.specs.Outcomes.{format_replacing, insert_outcome, remove_outcome, lookup_outcome, work_outcome}

-- ---- answers as text. "Each refusal is shown as in line 4 below"

abbrev pub answer_text : (line : ℕ) → Answer → List ℕ
answer_text line (Ok done) = ok_text
answer_text line (Err r) = refused_text line (refusal_no r)

abbrev pub lookup_text : (line : ℕ) → LookupAnswer → (output : List ℕ) → List ℕ
lookup_text line (Ok matches) out = found_text matches out
lookup_text line (Err r) out = refused_text line (refusal_no r)

abbrev pub work_text : (line : ℕ) → WorkAnswer → List ℕ
work_text line (Ok w) = steps_text w.steps (stop_no w.stop)
work_text line (Err r) = refused_text line (refusal_no r)

-- ---- a line

-- What a line writes, and the store that stands after it.
pub record Turn : Type 0 where
  pub text : List ℕ
  pub store : List ℕ

-- an accepted f makes a new store; a refused one leaves the store that stands
abbrev pub format_turn : (line blocks fill : ℕ) → Answer → (old new : List ℕ) → Turn
format_turn line n fill (Ok done) old new = record { text = store_text n fill; store = new }
format_turn line n fill (Err r) old new = record { text = refused_text line (refusal_no r); store = old }

-- the script's own largest N, whatever the library's is: "The script stays at 128" (2026-09), so that 30,000 bytes are
-- "enough for the 5,000 matches that 128 blocks can hold"
abbrev pub script_blocks : ℕ
script_blocks = 128

-- an f, by whether N is at most that: "A number that is outside its field gets 2, N gets 1." Above it 1 comes first,
-- before 2 and 12. For 12 "the store tested is the one that stands, with its own N".
abbrev pub format_line : (small : Bool) → (blocks : ℕ) → Order → (line : ℕ) → (store : List ℕ) → Turn
format_line true n o line s =
    let c = format_replacing s (replicate (512 * n) 0) o in
    format_turn line n o.fill c.answer s c.store
format_line false n o line s = record { text = refused_text line 1; store = s }

-- "A lookup lends 30,000 bytes"
abbrev pub lent : ℕ
lent = 30000

-- the call of a line on the store that stands; "Anything else .. is refusal 10"
unfoldable pub run_command : Option Command → (line : ℕ) → (store : List ℕ) → Turn
run_command (Some (Command.Format n fill number overwrite)) line s =
    format_line (nat_le n script_blocks) n (order_of fill number overwrite) line s
run_command (Some (Command.Insert h b o)) line s =
    let c = insert_outcome s (record { hash = h; block = b; offset = o }) in
    record { text = answer_text line c.answer; store = c.store }
run_command (Some (Command.Remove h b o)) line s =
    let c = remove_outcome s (record { hash = h; block = b; offset = o }) in
    record { text = answer_text line c.answer; store = c.store }
run_command (Some (Command.Lookup h)) line s =
    let c = lookup_outcome s h (replicate lent 0) in
    record { text = lookup_text line c.answer c.output; store = s }
run_command (Some (Command.Work budget)) line s =
    let c = work_outcome s budget in record { text = work_text line c.answer; store = c.store }
run_command None line s = record { text = refused_text line 10; store = s }

-- ---- a script

-- "LF ends (the last may lack it)": nothing after the last LF is no line
abbrev pub ended : List (List ℕ) → List (List ℕ)
ended [] = []
ended ([] ∷ []) = []
ended ((b ∷ bs) ∷ []) = (b ∷ bs) ∷ []
ended (l ∷ m ∷ ls) = l ∷ ended (m ∷ ls)

abbrev pub lines : List ℕ → List (List ℕ)
lines bs = ended (parts 10 bs)

-- the lines after line n, on the store that stands
abbrev pub run_lines : (n : ℕ) → (store : List ℕ) → List (List ℕ) → List ℕ
run_lines n s [] = []
run_lines n s (l ∷ ls) =
    let t = run_command (read_line l) (n + 1) s in t.text ++ run_lines (n + 1) t.store ls

-- "Before the first accepted f the store has length 0"
unfoldable pub script_output : List ℕ → List ℕ
script_output bs = run_lines 0 [] (lines bs)
