-- A list of calls as numbers, and what running them one after the other leaves.
use Rattle.std.specs.Prelude.{◌≡◌, Bool, true, false, cond, List, [], ◌∷◌, ◌++◌, ℕ, zero, suc, ◌+◌, ◌*◌, ◌^◌, ◌<◌, eqb, ltb, length, get_or, set, take, drop}
use Rattle.std.proofs.Math.Option.{Option, none, some}
use Rattle.model.specs.Calls.{order_of}
use Rattle.model.specs.Machine.{Call, formatting, inserting, removing, looking, working, squeezing, asking, Reply}
use Rattle.model.specs.Machine.{plain, looked, worked, stands, Ran}
use Rattle.model.specs.History.{Moment, history, last_of}
use Rattle.outcomes.specs.Outcomes.{on_store}
use Rattle.journal.specs.Journal.{Disk}
use Rattle.cuts.specs.Journalled.{run_disk}
use Rattle.amiqsovik.specs.Words.{answer_word, lookup_word, work_word, standing_word, short_word}
use Rattle.amiqsovik.specs.Result.{shown}

-- ---- one call

-- A standing that is lent less than 28 bytes is refused before anything is looked at: it is no call of document 01.
abbrev pub asking_in : (short : Bool) → Option Call
asking_in true = none
asking_in false = some asking

-- Four numbers a call, the kind first: 0 format (fill, store number, overwrite), 1 insert (hash, block, offset), 2
-- remove (hash, block, offset), 3 lookup (hash, bytes), 4 work (budget), 5 squeeze (bucket, budget), any other number
-- standing (unused, bytes). A lookup and a standing are lent so many bytes from the start of the output, or all of it.
unfoldable pub call_of : (kind a b c : ℕ) → (output : List ℕ) → Option Call
call_of kind a b c out =
    cond (eqb kind 0) (some (formatting (order_of a b c)))
    (cond (eqb kind 1) (some (inserting (record { hash = a; block = b; offset = c })))
    (cond (eqb kind 2) (some (removing (record { hash = a; block = b; offset = c })))
    (cond (eqb kind 3) (some (looking a (take b out)))
    (cond (eqb kind 4) (some (working a))
    (cond (eqb kind 5) (some (squeezing a b)) (asking_in (ltb (length (take b out)) 28)))))))

abbrev pub reply_word : Reply → ℕ
reply_word (plain a) = answer_word a
reply_word (looked l) = lookup_word l.answer
reply_word (worked a) = work_word a
reply_word (stands a) = standing_word a

-- the output after a reply, where its first n bytes were lent: a lookup's matches, the 28 bytes of standing
abbrev pub reply_output : Reply → (lent : ℕ) → (output : List ℕ) → List ℕ
reply_output (plain a) n out = out
reply_output (looked l) n out = l.output ++ drop n out
reply_output (worked a) n out = out
reply_output (stands a) n out = shown a (take n out) ++ drop n out

-- A call's word, and the output afterwards, by what runs the call: a store with its journal (`run_disk`), or a store
-- alone (`run_store`). Where there is no call, the word is that of a short result, and nothing changes.
abbrev pub word_of : {S : Type 0} → (run : Call → S → Ran S) → Option Call → S → ℕ
word_of run none s = short_word
word_of run (some c) s = reply_word (run c s).reply

abbrev pub output_after : {S : Type 0} → (run : Call → S → Ran S) → Option Call → S → (lent : ℕ) → (output : List ℕ)
    → List ℕ
output_after run none s n out = out
output_after run (some c) s n out = reply_output (run c s).reply n out

-- store and journal afterwards
abbrev pub disk_after : Option Call → Disk → Disk
disk_after none d = d
disk_after (some c) d = (run_disk c d).state

-- a call was run: w is its word, e and out' what it left
pub record Batched (c : Option Call) (lent : ℕ) (d : Disk) (out : List ℕ) (w : ℕ) (e : Disk) (out' : List ℕ) : Type 0
  where
    pub word : w ≡ word_of run_disk c d
    pub disk : e ≡ disk_after c d
    pub output : out' ≡ output_after run_disk c d lent out

-- ---- a list of calls

-- the numbers come as u32
abbrev pub Small : List ℕ → Type 0
Small ws = (i : ℕ) → get_or ws i 0 < 2 ^ 32

-- call i of the list, where the output is `out`, and how many bytes it is lent
abbrev pub call_at : (calls : List ℕ) → (i : ℕ) → (output : List ℕ) → Option Call
call_at ws i out =
    call_of (get_or ws (4 * i) 0) (get_or ws (4 * i + 1) 0) (get_or ws (4 * i + 2) 0) (get_or ws (4 * i + 3) 0) out

abbrev pub lent_at : (calls : List ℕ) → (i : ℕ) → ℕ
lent_at ws i = get_or ws (4 * i + 2) 0

-- What a batch leaves: store and journal, the lent output, and a word for each call.
pub record Kept : Type 0 where
  pub disk : Disk
  pub output : List ℕ
  pub words : List ℕ

-- call i is run
unfoldable pub ran_at : (calls : List ℕ) → (i : ℕ) → Kept → Kept
ran_at ws i k =
    let c = call_at ws i k.output in
    record {
      disk = disk_after c k.disk;
      output = output_after run_disk c k.disk (lent_at ws i) k.output;
      words = set k.words i (word_of run_disk c k.disk);
    }

-- n calls are run, from call i on
abbrev pub runs : (calls : List ℕ) → (n i : ℕ) → Kept → Kept
runs ws zero i k = k
runs ws (suc n) i k = runs ws n (suc i) (ran_at ws i k)

-- a call, if there is one, and those after it
abbrev pub also : Option Call → List Call → List Call
also none cs = cs
also (some c) cs = c ∷ cs

-- the calls that demand 3 speaks of among them, each with what it is lent
abbrev pub calls_in : (calls : List ℕ) → (n i : ℕ) → Kept → List Call
calls_in ws zero i k = []
calls_in ws (suc n) i k = also (call_at ws i k.output) (calls_in ws n (suc i) (ran_at ws i k))

-- the moments of these calls, on from t, and the last of them
abbrev pub moments_in : (calls : List ℕ) → (n i : ℕ) → Kept → Moment on_store → List (Moment on_store)
moments_in ws n i k t = history on_store (calls_in ws n i k) t

abbrev pub moment_after : (calls : List ℕ) → (n i : ℕ) → Kept → Moment on_store → Moment on_store
moment_after ws n i k t = last_of on_store t (moments_in ws n i k t)
