-- Calls and steps keep a store sound and as long as the first.
use Rattle.std.specs.Prelude.{◌≡◌, refl, Bool, true, false, List, ℕ}
use Rattle.std.proofs.Common.{sym, ◌∙◌, subst}
use Rattle.model.specs.Steps.{next}
use Rattle.model.specs.Machine.{Call, CallFits, Kind, accepted}
use Rattle.outcomes.specs.Outcomes.{run_store, step_store}
use Rattle.outcomes.proofs.OutcomeLaws.{refusal-leaves}
use Rattle.image.specs.SoundStore.{StaysSound}
use Rattle.outcomes.proofs.OutcomeSoundLaws.{call-sound, step-sound}

-- as long as a store that is as long as s
longer : (s t u : List ℕ) → StaysSound s t → StaysSound t u → StaysSound s u
longer s t u h g =
    record { index = g.index; sounds = g.sounds; legal = g.legal; bytes = g.bytes; same = g.same ∙ h.same }

pub keeps-call : (s : List ℕ) (c : Call) → CallFits c → (t : List ℕ) → StaysSound s t
    → StaysSound s (run_store c t).state
keeps-call s c f t h = go (accepted (run_store c t).reply) refl
  where
    go : (a : Bool) → accepted (run_store c t).reply ≡ a → StaysSound s (run_store c t).state
    go true e = longer s t (run_store c t).state h (call-sound t h.bytes c f e)
    go false e = subst (StaysSound s) (sym (refusal-leaves c t e)) h

pub keeps-step : (s : List ℕ) (k : Kind) (t u : List ℕ) → StaysSound s t → step_store k t ≡ next u → StaysSound s u
keeps-step s k t u h e = longer s t u h (step-sound t h.bytes k h.index u h.legal h.sounds e)
