-- The machine in pieces, and against the lines of a script.
use Rattle.std.specs.Prelude.{◌≡◌, ℕ, ◌+◌, ◌^◌, ◌<◌, Bool, true, false, cond, List, [], ◌∷◌, ◌++◌, length, ◌==◌, nat_le, nat_lt, refl, Option}
use Rattle.std.proofs.Common.{sym, ap, ◌∙◌, append_assoc, append-nil, arith, ltb-true, ltb-false, leb-false, le-leb, length-append}
use Rattle.std.proofs.lemmas.Bool.{lt-leb}
use Rattle.lists.specs.Lists.{bind}
use Rattle.line.specs.declared.Command.{Command}
use Rattle.line.specs.Words.{parts_from}
use Rattle.line.specs.Command.{max_line, read_line}
use Rattle.line.specs.CommandLaws.{line-long}
use Rattle.interpreter.specs.Script.{run_command, ended, run_lines}
use Rattle.interpreter.specs.Feed.{next_line}
use Rattle.interpreter.specs.Machine.{Pending, short, long, grow, command_at, State, Reached, end_line}
use Rattle.interpreter.specs.Machine.{keep_byte, on_byte, on_bytes, end_in, at_end, on_pieces}

-- ---- pieces

-- one run after the other
abbrev pub and_then : Reached → (State → Reached) → Reached
and_then r f = let q = f r.state in record { state = q.state; text = r.text ++ q.text }

pub on_bytes-append : (s : State) (xs ys : List ℕ) → on_bytes s (xs ++ ys) ≡ and_then (on_bytes s xs) (λ t. on_bytes t ys)
on_bytes-append s [] ys = refl
on_bytes-append s (b ∷ bs) ys =
    let r = on_byte s b in
    ap (λ (q : Reached). record { state = q.state; text = r.text ++ q.text }) (on_bytes-append r.state bs ys)
    ∙ ap (λ (t : List ℕ). record { state = (on_bytes (on_bytes r.state bs).state ys).state; text = t })
    (sym (append_assoc r.text (on_bytes r.state bs).text (on_bytes (on_bytes r.state bs).state ys).text))

pub on_pieces-joined : (s : State) (ps : List (List ℕ)) → on_pieces s ps ≡ on_pieces s (bind ps (λ p. p) ∷ [])
on_pieces-joined s [] = refl
on_pieces-joined s (p ∷ ps) =
    let r = on_bytes s p in
    let rest = bind ps (λ p. p) in
    let q = on_bytes r.state rest in
    ap (λ (t : List ℕ). r.text ++ t) (on_pieces-joined r.state ps)
    ∙ sym (append_assoc r.text q.text (at_end q.state).text)
    ∙ ap (λ (x : Reached). x.text ++ (at_end x.state).text) (sym (on_bytes-append s p rest))

-- ---- the pending line

-- the bytes of a line so far
abbrev pending_of : List ℕ → Pending
pending_of l = cond (nat_le (length l) max_line) (short l) long

pending-grow : (l : List ℕ) (b : ℕ) → grow (pending_of l) b ≡ pending_of (l ++ (b ∷ []))
pending-grow l b = go (nat_le (length l) max_line) refl
  where
    room : (t : Bool) → nat_lt (length l) max_line ≡ t → nat_le (length (l ++ (b ∷ []))) max_line ≡ t
    room true e =
        le-leb (length (l ++ (b ∷ []))) max_line (simp length-append (omega (arith, ltb-true (length l) max_line e)))
    room false e =
        lt-leb (length (l ++ (b ∷ []))) max_line (simp length-append (omega (arith, ltb-false (length l) max_line e)))

    go : (t : Bool) → nat_le (length l) max_line ≡ t → grow (cond t (short l) long) b ≡ pending_of (l ++ (b ∷ []))
    go true e =
        ap (λ (t : Bool). cond t (short (l ++ (b ∷ []))) long) (sym (room (nat_lt (length l) max_line) refl))
    go false e =
        ap (λ (t : Bool). cond t (short (l ++ (b ∷ []))) long)
        (sym (lt-leb (length (l ++ (b ∷ []))) max_line
        (simp length-append (omega (arith, leb-false (length l) max_line e)))))

pending-command : (l : List ℕ) → command_at (pending_of l) ≡ read_line l
pending-command l = go (nat_le (length l) max_line) refl
  where
    go : (t : Bool) → nat_le (length l) max_line ≡ t → command_at (cond t (short l) long) ≡ read_line l
    go true e = refl
    go false e = sym (line-long l (leb-false (length l) max_line e))

-- ---- lines

ended-more : (l acc bs : List ℕ) → ended (l ∷ parts_from 10 acc bs) ≡ l ∷ ended (parts_from 10 acc bs)
ended-more l acc [] = refl
ended-more l acc (b ∷ bs) = go (b == 10) (ended-more l (acc ++ (b ∷ [])) bs)
  where
    at : Bool → List (List ℕ)
    at t = elim t [ true ↦ acc ∷ parts_from 10 [] bs | false ↦ parts_from 10 (acc ++ (b ∷ [])) bs ]

    go : (t : Bool) → ended (l ∷ parts_from 10 (acc ++ (b ∷ [])) bs) ≡ l ∷ ended (parts_from 10 (acc ++ (b ∷ [])) bs)
        → ended (l ∷ at t) ≡ l ∷ ended (at t)
    go true e = refl
    go false e = e

-- the state in the middle of a line
abbrev within : (n : ℕ) → (store acc : List ℕ) → State
within n s acc = record { pending = pending_of acc; line = n; store = s }

-- what is written from a state on, to the end of the script
abbrev rest : State → List ℕ → List ℕ
rest s bs = let r = on_bytes s bs in r.text ++ (at_end r.state).text

-- a number that 64 bits hold is not wrapped
next-count : (n : ℕ) → n + 1 < 2 ^ 64 → next_line n ≡ n + 1
next-count n h = omega arith

last : (n : ℕ) (s acc : List ℕ) → n + length acc < 2 ^ 64
    → (at_end (within n s acc)).text ≡ run_lines n s (ended (acc ∷ []))
last n s [] h = refl
last n s (x ∷ xs) h =
    go (nat_le (length (x ∷ xs)) max_line)
    ∙ ap (λ (c : Option Command). (run_command c (next_line n) s).text) (pending-command (x ∷ xs))
    ∙ ap (λ (m : ℕ). (run_command (read_line (x ∷ xs)) m s).text) (next-count n (omega arith))
    ∙ sym (append-nil (run_command (read_line (x ∷ xs)) (n + 1) s).text)
  where
    go : (t : Bool)
        → let p = cond t (short (x ∷ xs)) long in
        (end_in p (record { pending = p; line = n; store = s })).text ≡ (run_command (command_at p) (next_line n) s).text
    go true = refl
    go false = refl

-- a line has a byte at least, with its LF, so fewer than 2 ^ 64 bytes have no line whose number wraps
pub rest_lines : (n : ℕ) (s acc bs : List ℕ) → n + (length acc + length bs) < 2 ^ 64
    → rest (within n s acc) bs ≡ run_lines n s (ended (parts_from 10 acc bs))
rest_lines n s acc [] h = last n s acc (omega arith)
rest_lines n s acc (b ∷ bs) h =
    go (b == 10) (λ t. rest_lines (n + 1) t [] bs (omega arith))
    (rest_lines n s (acc ++ (b ∷ [])) bs (simp length-append (omega arith)))
  where
    count : next_line n ≡ n + 1
    count = next-count n (omega arith)

    go : (t : Bool)
        → ((u : List ℕ) → rest (within (n + 1) u []) bs ≡ run_lines (n + 1) u (ended (parts_from 10 [] bs)))
        → rest (within n s (acc ++ (b ∷ []))) bs ≡ run_lines n s (ended (parts_from 10 (acc ++ (b ∷ [])) bs))
        → let r = cond t (end_line (within n s acc)) (keep_byte (within n s acc) b) in
        r.text ++ (on_bytes r.state bs).text ++ (at_end (on_bytes r.state bs).state).text
        ≡ run_lines n s (ended (elim t [ true ↦ acc ∷ parts_from 10 [] bs | false ↦ parts_from 10 (acc ++ (b ∷ [])) bs ]))
    go true new old =
        let r = end_line (within n s acc) in
        append_assoc r.text (on_bytes r.state bs).text (at_end (on_bytes r.state bs).state).text
        ∙ ap (λ (m : ℕ). let t = run_command (command_at (pending_of acc)) m s in
        t.text ++ rest (within m t.store []) bs) count
        ∙ ap (λ (x : List ℕ). (run_command (command_at (pending_of acc)) (n + 1) s).text ++ x)
        (new (run_command (command_at (pending_of acc)) (n + 1) s).store)
        ∙ ap (λ (c : Option Command). let t = run_command c (n + 1) s in
        t.text ++ run_lines (n + 1) t.store (ended (parts_from 10 [] bs)))
        (pending-command acc)
        ∙ ap (run_lines n s) (sym (ended-more acc [] bs))
    go false new old =
        ap (λ (p : Pending). rest (record { pending = p; line = n; store = s }) bs) (pending-grow acc b) ∙ old
