-- ROOM FOR A SPLIT'S STEPS (docs/RULES.md 6.14), of stores and by work's answers: when work stops for room; with room
-- the copying goes on, and the clearing always does.
use Rattle.std.specs.Prelude.{◌≡◌, refl, ◌↔◌, ◌⊎◌, List, ℕ, zero, suc, ◌≤◌, ◌<◌, Ok}
use Rattle.std.proofs.Common.{sym, ap, ◌∙◌, subst, inl, inr, ⊎_elim, arith}
use Rattle.lists.specs.Bytes.{Bytes}
use Rattle.model.specs.declared.Stop.{Stop}
use Rattle.model.specs.declared.Phase.{Phase}
use Rattle.model.specs.Answers.{work_steps, work_of}
use Rattle.model.specs.Index.{copying, Index}
use Rattle.model.specs.Steps.{stopped, copies_left}
use Rattle.model.specs.History.{phase_at}
use Rattle.model.specs.Room.{NoPage, Room, NoStep}
use Rattle.model.proofs.RoomLaws.{step-no_room, room-not, room-or-none}
use Rattle.model.proofs.MachineLaws.{never}
use Rattle.image.specs.Decode.{decode}
use Rattle.outcomes.specs.Outcomes.{work_outcome, on_store}
use Rattle.outcomes.proofs.OutcomeLaws.{WorkEnds, work-ends}
use Rattle.outcomes.proofs.RoomLaws.{step-stops, InJob, phase-read, first_stops, first_goes}

-- an accepted work call stops for room exactly when its budget is not spent and there is no room for the step that
-- would come next (`NoStep`): a begin, or a copy; while clearing there always is
pub work-stops-for-room : (s : List ℕ) (budget k : ℕ) (r : Stop)
    → (work_outcome s budget).answer ≡ Ok (work_of k r)
    → let y = decode (work_outcome s budget).store in (r ≡ Stop.NoRoom) ↔ ((k < budget) × NoStep y.job y)
work-stops-for-room s budget k r e = (
  λ h. (let f = d.ended (λ q. never (let l = d.spent.0 q in cc)) in
      (f.0, (step-no_room y).0 ((step-stops t Stop.NoRoom).0 (f.1 ∙ ap stopped h)))),
  λ h. (let f = (d.ended (λ q. omega (arith, h.0, q))).1 in
      let n = (step-stops t Stop.NoRoom).1 ((step-no_room y).1 h.1) in cc),
)
  where
    t : List ℕ
    t = (work_outcome s budget).store

    y : Index
    y = decode t

    d : WorkEnds s budget k r
    d = work-ends s budget k r e

-- a work call with a budget of n + 1, on a store in the midst of a job
module _ (s : List ℕ) (bytes : Bytes s) (n : ℕ) (ok : suc n ≤ 65535) {old new : ℕ} where
  -- a copying step stops for room, and the call with it, exactly when an entry is left to copy, every page of the new
  -- bucket's chain is full, no bit is 0 and no block past the made ones is left
  pub copying-stops : phase_at on_store s ≡ Phase.Copying old new
      → ((work_outcome s (suc n)).answer ≡ Ok (work_of 0 Stop.NoRoom))
      ↔ ((1 ≤ copies_left (decode s)) × NoPage (decode s) new)
  copying-stops p =
      let i = phase-read s bytes (Phase.Copying old new) p (λ e. never (cc)) in
      let f = first_stops s bytes n ok i (λ e. never (cc)) in (
        λ e. ((f.0 e).0, subst (NoPage (decode s)) i.newest (f.0 e).1),
        λ h. f.1 (h.0, subst (NoPage (decode s)) (sym i.newest) h.1),
      )

  -- and else it is made: it "succeeds once a page is free again or a page of the new bucket's chain has room" (or there
  -- is a block left), and where no entry is left to copy
  pub copying-goes-on : phase_at on_store s ≡ Phase.Copying old new
      → (1 ≤ work_steps (work_outcome s (suc n)).answer) ↔ ((copies_left (decode s) ≡ 0) ⊎ Room (decode s) new)
  copying-goes-on p = (
    λ g. to ((first_goes s bytes n ok i (λ e. never (cc))).0 g) (copies_left x) refl (room-or-none x new),
    λ h. (first_goes s bytes n ok i (λ e. never (cc))).1 (from h),
  )
    where
      x : Index
      x = decode s

      i : InJob s bytes copying new
      i = phase-read s bytes (Phase.Copying old new) p (λ e. never (cc))

      to : (NoStep copying x → ⊥) → (c : ℕ) → copies_left x ≡ c → Room x new ⊎ NoPage x new
          → (copies_left x ≡ 0) ⊎ Room x new
      to ne zero e h = inl e
      to ne (suc c) e h =
          ⊎_elim (λ r. inr r) (λ f. absurd (ne (omega (arith, e), subst (NoPage x) (sym i.newest) f))) h

      from : (copies_left x ≡ 0) ⊎ Room x new → NoStep copying x → ⊥
      from h f = ⊎_elim (λ e. omega (arith, e, f.0)) (λ r. room-not r (subst (NoPage x) i.newest f.1)) h

  -- "A clearing step never stops for room", nor for anything else
  pub clearing-goes-on : phase_at on_store s ≡ Phase.Clearing old new → 1 ≤ work_steps (work_outcome s (suc n)).answer
  clearing-goes-on p =
      let i = phase-read s bytes (Phase.Clearing old new) p (λ e. never (cc)) in
      (first_goes s bytes n ok i (λ e. never (cc))).1 (λ h. h)
