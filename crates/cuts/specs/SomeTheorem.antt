-- NO CHANGE ALTERS NOTHING: an accepted insert or removal, and each step, alters at least one block, so its list has
-- 2k + 3 block stores where k blocks are altered.
use Rattle.std.specs.Prelude.{◌≡◌, refl, ◌≢◌, true, List, ℕ, zero, suc, ◌+◌, ◌*◌, ◌≤◌, length}
use Rattle.std.proofs.Common.{sym, ap, ◌∙◌, arith}
use Rattle.model.specs.Index.{Index}
use Rattle.model.specs.Steps.{next}
use Rattle.model.specs.Machine.{Call, CallFits, Kind, accepted, step_index}
use Rattle.model.proofs.SimulationLaws.{alike_next}
use Rattle.image.specs.Decode.{decode}
use Rattle.image.specs.SoundStore.{Encodes}
use Rattle.outcomes.specs.Outcomes.{run_store, step_store}
use Rattle.outcomes.proofs.OutcomeIndexLaws.{encodes-read, step-alike}
use Rattle.outcomes.proofs.OutcomeMachineLaws.{simulates}
use Rattle.journal.specs.Journal.{Disk}
use Rattle.journal.specs.Altered.{altered, change_stores}
use Rattle.journal.specs.Cut.{Becomes}
use Rattle.journal.proofs.AlteredLaws.{altered-none}
use Rattle.journal.proofs.CrashTheorem.{count}
use Rattle.cuts.specs.Events.{OneChange}
use Rattle.cuts.specs.EightTheorem.{change-touches, step-touches-store}
use Rattle.cuts.specs.BecomesLaws.{becomes-call, becomes-step}
use Rattle.cuts.specs.OtherLaws.{call-other, step_other}

-- the length of a list of block stores, by the number of blocks that it alters
pub record Counted (d : Disk) (t : List ℕ) : Type 0 where
  pub some : 1 ≤ length (altered d.store t)
  pub few : length (altered d.store t) ≤ 8
  pub stores : length (change_stores d t) ≡ 2 * length (altered d.store t) + 3

counted : {d : Disk} {m : ℕ} {t : List ℕ} {x y : Index} → Encodes d.store x → Encodes t y → x ≢ y → Becomes d m t
    → length (altered d.store t) ≤ 8 → Counted d t
counted {d} {m} {t} {x} {y} r q other c few = record { some = some; few = few; stores = count d t some }
  where
    go : (n : ℕ) → length (altered d.store t) ≡ n → 1 ≤ length (altered d.store t)
    go zero e =
        absurd (other (sym (encodes-read d.store x r)
        ∙ ap decode (altered-none d.store t m c.size c.same e)
        ∙ encodes-read t y q))
    go (suc n) e = omega arith

    some : 1 ≤ length (altered d.store t)
    some = go (length (altered d.store t)) refl

module _ {d : Disk} {x : Index} (r : Encodes d.store x) where
  pub counted-call : (c : Call) → CallFits c → OneChange c → accepted (run_store c d.store).reply ≡ true
      → Counted d (run_store c d.store).state
  counted-call c f o e =
      counted r (simulates.state c f d.store x r)
      (call-other c f o x r.0 (sym (ap accepted (simulates.reply c f d.store x r)) ∙ e))
      (becomes-call r c f o) (change-touches d.store x r c f o)

  pub counted_step : (k : Kind) {t : List ℕ} → step_store k d.store ≡ next t → Counted d t
  counted_step k {t} e =
      let g = alike_next Encodes (step_store k d.store) (step_index k x) t (step-alike k d.store x r) e in
      counted r g.related (step_other x g.state r.0 k g.goes) (becomes-step r k e)
      (step-touches-store d.store x r k t e)
