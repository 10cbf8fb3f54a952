-- DEMAND 3 holds of every batch that follows an accepted format made with the journal's head wiped, one that is the
-- batch's own first call included. `run_batch` leaves exactly what `runs` says (Batch.antt); here its store, words and
-- output are joined to the moments of the calls. The claim on moments is in Demand.antt of crate `model`, its proof for
-- stores in Demand3Theorem.antt of crate `outcomes`. Calls that are cut are events of crate `cuts`.
use Rattle.std.specs.Prelude.{◌≡◌, true, List, ◌∷◌, ◌++◌, ℕ, suc, ◌+◌, ◌≤◌, ◌<◌, length, get_or, set}
use Rattle.std.proofs.Math.Path.{ap}
use Rattle.std.proofs.Common.{◌∙◌, subst}
use Rattle.std.proofs.Math.Option.{Option, some}
use Rattle.lists.specs.Lists.{Each}
use Rattle.model.specs.declared.Order.{Order}
use Rattle.model.specs.Machine.{Call, formatting, CallFits, accepted}
use Rattle.model.specs.History.{Moment, start}
use Rattle.model.specs.Demand.{Holds}
use Rattle.image.specs.Decode.{decode}
use Rattle.outcomes.specs.Outcomes.{run_store, on_store}
use Rattle.outcomes.proofs.Demand3Theorem.{demand3-stores}
use Rattle.journal.specs.Journal.{Disk}
use Rattle.journal.specs.Cut.{Ready}
use Rattle.cuts.specs.Journalled.{run_disk}
use Rattle.batch.specs.Batch.{word_of, output_after, disk_after, Small, call_at, lent_at, Kept, ran_at, runs}
use Rattle.batch.specs.Batch.{calls_in, moments_in, moment_after}
use Rattle.batch.specs.CallLaws.{MayFit}
use Rattle.batch.specs.BatchLaws.{fits-calls, runs-next, last-each, moments-split, runs-word}
use Rattle.batch.specs.JoinedLaws.{Joined, joined-format, joined, joined_word, joined-output, fits-at}

-- after an accepted format, made with the head wiped, n calls of any list, from call i on
module _ (d : Disk) (ready : Ready d) (o : Order) (fits : CallFits (formatting o))
    (ok : accepted (run_disk (formatting o) d).reply ≡ true)
    (ws : List ℕ) (small : Small ws) (i n : ℕ) (output words : List ℕ) where
  abbrev first : Kept
  first = record { disk = (run_disk (formatting o) d).state; output = output; words = words }

  abbrev opening : Moment on_store
  opening = start on_store (run_disk (formatting o) d).state.store o

  -- what the first m calls leave, the moment after them, and the call that comes next
  abbrev left : (m : ℕ) → Kept
  left m = runs ws m i first

  abbrev reached : (m : ℕ) → Moment on_store
  reached m = moment_after ws m i first opening

  abbrev next_call : (m : ℕ) → Option Call
  next_call m = call_at ws (i + m) (left m).output

  demand3-first : (m : ℕ) → Each (Holds on_store decode) (opening ∷ moments_in ws m i first opening)
  unfolding run_disk run_store
  demand3-first m = demand3-stores d.store o fits ok (calls_in ws m i first) (fits-calls ws small m i first)

  reached-joined : (m : ℕ) → Joined d.store (reached m) (left m).disk
  reached-joined m = joined ws small d.store m i first opening (joined-format d ready o fits ok)

  -- demand 3 holds at every moment of the calls
  pub demand3-batch : Each (Holds on_store decode) (opening ∷ moments_in ws n i first opening)
  demand3-batch = demand3-first n

  -- so it does after the first m calls
  pub batch-moment : (m : ℕ) → Holds on_store decode (reached m)
  batch-moment m =
      last-each (Holds on_store decode) opening (moments_in ws m i first opening) (demand3-first m)

  -- and its store is the one that these calls leave
  pub batch-store : (m : ℕ) → (reached m).state ≡ (left m).disk.store
  batch-store m = (reached-joined m).store

  -- beside a journal whose head is wiped
  pub batch-ready : (m : ℕ) → Ready (left m).disk
  batch-ready m = (reached-joined m).ready

  -- each word is the reply of its call at the moment before it
  pub batch-word : (m : ℕ) → m < n → i + n ≤ length words
      → get_or (left n).words (i + m) 0 ≡ word_of run_store (next_call m) (reached m).state
  batch-word m h room =
      runs-word ws m n i first h room
      ∙ joined_word (reached-joined m) (next_call m) (fits-at ws small (i + m) (left m).output)

  -- and so is the output after it
  pub batch-output : (m : ℕ) → (left (suc m)).output
      ≡ output_after run_store (next_call m) (reached m).state (lent_at ws (i + m)) (left m).output
  unfolding ran_at
  batch-output m =
      ap (λ (k : Kept). k.output) (runs-next ws m i first)
      ∙ joined-output (reached-joined m) (next_call m) (fits-at ws small (i + m) (left m).output)
      (lent_at ws (i + m)) (left m).output

  -- a list splits anywhere: its moments are those of the first m calls, and then those of the rest
  pub batch-splits : (m : ℕ) → moments_in ws (m + n) i first opening
      ≡ moments_in ws m i first opening ++ moments_in ws n (i + m) (left m) (reached m)
  batch-splits m = moments-split ws m n i first opening

-- a batch whose first call is the format: from call 1 on it is one that follows it
pub batch-format : (ws : List ℕ) (n : ℕ) (o : Order) (k : Kept) → call_at ws 0 k.output ≡ some (formatting o)
    → runs ws (suc n) 0 k ≡ runs ws n 1 (record {
      disk = (run_disk (formatting o) k.disk).state;
      output = k.output;
      words = set k.words 0 (word_of run_disk (some (formatting o)) k.disk);
    })
unfolding ran_at run_disk
batch-format ws n o k e =
    ap (λ (c : Option Call). runs ws n 1 (record {
      disk = disk_after c k.disk;
      output = output_after run_disk c k.disk (lent_at ws 0) k.output;
      words = set k.words 0 (word_of run_disk c k.disk);
    })) e

-- whose numbers fit
pub batch-fits : (ws : List ℕ) (o : Order) (output : List ℕ) → Small ws → call_at ws 0 output ≡ some (formatting o)
    → CallFits (formatting o)
batch-fits ws o output small e = subst MayFit e (fits-at ws small 0 output)
