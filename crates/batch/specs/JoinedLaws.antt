-- What a batch leaves, joined to the moment of its calls: made with the head wiped, they do what they do to a store
-- alone, and the head is wiped again.
use Rattle.std.specs.Prelude.{◌≡◌, refl, true, List, [], ℕ, zero, suc, ◌+◌, ◌*◌}
use Rattle.std.proofs.Common.{sym, ap, ◌∙◌, subst}
use Rattle.std.proofs.Math.Option.{Option, none, some}
use Rattle.lists.specs.Bytes.{Bytes}
use Rattle.model.specs.declared.Order.{Order}
use Rattle.model.specs.Machine.{Call, formatting, CallFits, Reply, accepted}
use Rattle.model.specs.Book.{effect}
use Rattle.model.specs.History.{Moment, start, within, after, history, last_of}
use Rattle.model.specs.HistoryLaws.{last-append, after-state}
use Rattle.image.specs.SoundStore.{StaysSound}
use Rattle.outcomes.specs.Outcomes.{run_store, on_store}
use Rattle.outcomes.proofs.OutcomeHistoryLaws.{keeps-call}
use Rattle.outcomes.proofs.Demand3Theorem.{history-length}
use Rattle.journal.specs.Journal.{Disk}
use Rattle.journal.specs.Cut.{Ready}
use Rattle.cuts.specs.Journalled.{run_disk}
use Rattle.cuts.proofs.JournalledLaws.{Same, journalled-bytes}
use Rattle.batch.specs.Batch.{reply_word, reply_output, word_of, output_after, disk_after, Small, call_at, Kept}
use Rattle.batch.specs.Batch.{ran_at, runs, also, calls_in, moment_after}
use Rattle.batch.specs.CallLaws.{MayFit, fits-call}

-- ---- one call

-- the moment's store is the one beside the journal, sound and as long as s, and the head is wiped
pub record Joined (s : List ℕ) (t : Moment on_store) (d : Disk) : Type 0 where
  pub store : t.state ≡ d.store
  pub ready : Ready d
  pub sound : StaysSound s t.state

module _ {s : List ℕ} {t : Moment on_store} {d : Disk} (j : Joined s t d) where
  same : (c : Call) → CallFits c → Same (run_disk c d) (run_store c t.state)
  same c f =
      subst (λ (u : List ℕ). Same (run_disk c d) (run_store c u)) (sym j.store)
      (journalled-bytes j.ready (subst Bytes j.store j.sound.bytes) c f)

  -- the reply is the one of a store alone
  pub joined_word : (c : Option Call) → MayFit c → word_of run_disk c d ≡ word_of run_store c t.state
  joined_word none f = refl
  joined_word (some c) f = ap reply_word (same c f).reply

  pub joined-output : (c : Option Call) → MayFit c → (lent : ℕ) (out : List ℕ)
      → output_after run_disk c d lent out ≡ output_after run_store c t.state lent out
  joined-output none f n out = refl
  joined-output (some c) f n out = ap (λ (r : Reply). reply_output r n out) (same c f).reply

  pub joined-call : (c : Call) → CallFits c → Joined s (after on_store c t) (run_disk c d).state
  joined-call c f =
      let e = after-state on_store c t in
      record {
        store = e ∙ sym (same c f).store;
        ready = (same c f).ready;
        sound = subst (StaysSound s) (sym e) (keeps-call s c f t.state j.sound);
      }

-- ---- the format

pub joined-format : (d : Disk) → Ready d → (o : Order) → CallFits (formatting o)
    → accepted (run_disk (formatting o) d).reply ≡ true
    → (let e = (run_disk (formatting o) d).state in Joined d.store (start on_store e.store o) e)
unfolding run_disk run_store
joined-format d r o fits ok =
    record {
      store = refl;
      ready = record { sixteen = r.sixteen; clean = r.clean };
      sound = (history-length d.store o fits ok [] tt).0;
    }

-- ---- a list of calls

ran-disk : (ws : List ℕ) (i : ℕ) (k : Kept) → (ran_at ws i k).disk ≡ disk_after (call_at ws i k.output) k.disk
unfolding ran_at
ran-disk ws i k = refl

module _ (ws : List ℕ) (small : Small ws) where
  pub fits-at : (i : ℕ) (out : List ℕ) → MayFit (call_at ws i out)
  fits-at i out = fits-call _ _ _ _ out (small (4 * i + 1)) (small (4 * i + 2)) (small (4 * i + 3))

  pub joined : (s : List ℕ) (n i : ℕ) (k : Kept) (t : Moment on_store) → Joined s t k.disk
      → Joined s (moment_after ws n i k t) (runs ws n i k).disk
  joined s zero i k t j = j
  joined s (suc n) i k t j =
      go (call_at ws i k.output) (fits-at i k.output) (ran-disk ws i k) (joined s n (suc i) (ran_at ws i k))
    where
      go : (c : Option Call) → MayFit c → (ran_at ws i k).disk ≡ disk_after c k.disk
          → ((u : Moment on_store) → Joined s u (ran_at ws i k).disk
          → Joined s (moment_after ws n (suc i) (ran_at ws i k) u) (runs ws n (suc i) (ran_at ws i k)).disk)
          → Joined s (last_of on_store t (history on_store (also c (calls_in ws n (suc i) (ran_at ws i k))) t))
          (runs ws n (suc i) (ran_at ws i k)).disk
      go none f e ih = ih t (subst (Joined s t) (sym e) j)
      go (some c) f e ih =
          subst (λ (u : Moment on_store). Joined s u (runs ws n (suc i) (ran_at ws i k)).disk)
          (sym (last-append on_store t (within on_store (accepted (run_store c t.state).reply) (effect c) t)
          (after on_store c t) _))
          (ih (after on_store c t) (subst (Joined s (after on_store c t)) (sym e) (joined-call j c f)))
