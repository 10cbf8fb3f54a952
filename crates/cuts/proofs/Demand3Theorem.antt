-- DEMAND 3 holds of a store with its journal, from a format made with the head wiped, over all that may happen to them
-- (Events.antt): calls that ran whole, changes and recoveries that were cut, wipes. docs/RULES.md 11.7: "Demands 2 and
-- 3 read the recovered store."
use Rattle.std.specs.Prelude.{◌≡◌, refl, true, List, ◌∷◌, ℕ, length}
use Rattle.std.proofs.Common.{sym, ap, ◌∙◌, subst}
use Rattle.lists.specs.Lists.{Each}
use Rattle.model.specs.declared.Order.{Order}
use Rattle.model.specs.Machine.{Call, formatting, CallFits, accepted}
use Rattle.model.specs.History.{last_of, history, start}
use Rattle.model.specs.Demand.{Holds}
use Rattle.image.specs.Decode.{decode}
use Rattle.image.specs.SoundStore.{StaysSound}
use Rattle.outcomes.specs.Outcomes.{run_store, on_store}
use Rattle.outcomes.proofs.OutcomeSoundLaws.{format-sound}
use Rattle.outcomes.proofs.OutcomeMachineLaws.{simulates}
use Rattle.outcomes.proofs.Demand3Theorem.{demand3-stores}
use Rattle.journal.specs.Journal.{Disk}
use Rattle.journal.specs.Cut.{Ready}
use Rattle.journal.proofs.RecoverLaws.{recover-store}
use Rattle.cuts.specs.Journalled.{run_disk}
use Rattle.cuts.specs.Events.{recovered, Happens}
use Rattle.cuts.proofs.EventLaws.{after_calls, after-sound, Follows, follows-ready, follows_same, last-state}
use Rattle.cuts.proofs.EventLaws.{happens-follows, happens-fits}

-- What holds when calls that count as cs have left f, from the store s that format made.
pub record Covered (s : List ℕ) (o : Order) (cs : List Call) (f : Disk) : Type 0 where
  -- demand 3 at every moment of these calls
  pub faithful : let t = start on_store s o in Each (Holds on_store decode) (t ∷ history on_store cs t)
  -- the recovered store is the last moment's
  pub reached : let t = start on_store s o in recovered f ≡ (last_of on_store t (history on_store cs t)).state
  -- sound, and as long as s
  pub sound : StaysSound s (recovered f)
  -- the journal has 16 blocks: it is ready where its head is wiped
  pub sixteen : length f.journal ≡ 8192
  -- there the store is that as it lies, and answers each call as that does
  pub lies : Ready f → f.store ≡ recovered f
  pub answers : Ready f → (c : Call) → CallFits c → (run_disk c f).reply ≡ (run_store c (recovered f)).reply

pub demand3-cuts : {d f : Disk} {cs : List Call} (o : Order) → Ready d → CallFits (formatting o)
    → accepted (run_disk (formatting o) d).reply ≡ true → Happens (run_disk (formatting o) d).state cs f
    → Covered (run_store (formatting o) d.store).state o cs f
unfolding run_disk run_store
demand3-cuts {d} {f} {cs} o r fits ok h =
    record {
      faithful = demand3-stores d.store o fits ok cs (happens-fits h);
      reached = w.recovers ∙ sym (last-state cs (start on_store s o));
      sound = subst (StaysSound s) (sym w.recovers) (after-sound s cs (happens-fits h) s first);
      sixteen = w.whole.journal;
      lies = λ k. sym (recover-store f k.clean);
      answers = λ k c g.
          (follows_same k w c g).reply ∙ ap (λ (u : List ℕ). (run_store c u).reply) (sym (recover-store f k.clean));
    }
  where
    s : List ℕ
    s = (run_store (formatting o) d.store).state

    w : Follows f (after_calls cs (run_store (formatting o) d.store).state)
    w =
        happens-follows h
        (follows-ready (record { sixteen = r.sixteen; clean = r.clean })
        (simulates.formats d.store o fits ok).related refl)

    first : StaysSound s s
    first =
        let g = format-sound d.store o fits ok in
        record { index = g.index; sounds = g.sounds; legal = g.legal; bytes = g.bytes; same = refl }
