-- THE CRASH THEOREM OF THE CALLS. docs/RULES.md 11.6: "after recovery the store is the one before the change or the one
-- after it, and the one after from the end block on. Recovering twice changes nothing more." An insert, a removal or a
-- step of work or squeeze, of a sound store beside a journal with wiped head, is cut anywhere, and so are its
-- recoveries, any number of times; what the last recovery leaves is as `Recovers` of crate `journal` says.
use Rattle.std.specs.Prelude.{◌≡◌, List, ℕ}
use Rattle.model.specs.Index.{Index}
use Rattle.model.specs.Steps.{next}
use Rattle.model.specs.Machine.{Call, CallFits, Kind}
use Rattle.image.specs.SoundStore.{Encodes}
use Rattle.outcomes.specs.Outcomes.{run_store, step_store}
use Rattle.journal.specs.Journal.{Disk, recover}
use Rattle.journal.specs.Altered.{change_stores}
use Rattle.journal.specs.Cut.{Cut, Tries, Ready}
use Rattle.journal.proofs.CrashTheorem.{Recovers, crash}
use Rattle.cuts.specs.Events.{OneChange}
use Rattle.cuts.specs.BecomesLaws.{becomes-call, becomes-step}

module _ {d e f : Disk} {n : ℕ} {x : Index} (r : Ready d) (s : Encodes d.store x) where
  pub crash-call : (c : Call) → CallFits c → OneChange c → Cut d (change_stores d (run_store c d.store).state) n e
      → Tries e f → Recovers d (run_store c d.store).state n (recover f)
  crash-call c fits o q tries = crash r (becomes-call s c fits o) q tries

  pub crash-step : (k : Kind) {t : List ℕ} → step_store k d.store ≡ next t → Cut d (change_stores d t) n e
      → Tries e f → Recovers d t n (recover f)
  crash-step k i q tries = crash r (becomes-step s k i) q tries
