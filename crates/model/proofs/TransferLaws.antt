-- Demand 3 carries over from a machine M to a machine L that does as M does.
use Rattle.std.specs.Prelude.{◌≡◌, ◌↔◌, ◌⊎◌, Bool, true, false, ℕ, suc, ◌+◌}
use Rattle.std.proofs.Common.{sym, ap, ◌∙◌, subst, inl, inr, ⊎_elim}
use Rattle.model.specs.declared.Stop.{Stop}
use Rattle.model.specs.declared.Phase.{Phase}
use Rattle.model.specs.Index.{Index}
use Rattle.model.specs.Held.{held}
use Rattle.model.specs.Steps.{stopped}
use Rattle.model.specs.Calls.{standing}
use Rattle.model.specs.WellFormed.{WF}
use Rattle.model.specs.Machine.{Call, formatting, inserting, removing, looking, squeezing, asking, CallFits, Kind}
use Rattle.model.specs.Machine.{of_splits, of_squeeze, Reply, accepted, Machine}
use Rattle.model.specs.Book.{Book, has, Split, no_split, since}
use Rattle.model.specs.History.{Moment, phase_at}
use Rattle.model.specs.Demand.{of_job, JobIs, WorkIs, SqueezeIs, SplitIs, Faithful, Holds, Demand3}
use Rattle.model.specs.Room.{RoomIs}
use Rattle.model.specs.Shift.{ShiftIs}
use Rattle.model.proofs.SimulationLaws.{Alike, alike-stopped, alike_next, Simulates, Beside, phase-same, carry}

module _ {M L : Machine} (R : L.State → M.State → Type 0) (sim : Simulates M L R) where
  faithful-beside : (t : Moment L) (u : Moment M) → Beside R t u → Faithful M u → Faithful L t
  faithful-beside t u b f =
      subst (Faithful L) (sym same)
      (record {
        set = f.set;
        lookups = λ h out fits. record {
          room = λ l. reply (looking h out) fits ∙ (f.lookups h out fits).room l;
          short = λ l. reply (looking h out) fits ∙ (f.lookups h out fits).short l;
        };
        count = sim.stored s x r ∙ f.count;
        standing = reply asking tt ∙ rw phase f.standing;
        job = rw phase (job (1 + u.begins) (phase_at M x) f.job);
        inserts = λ p fits ok. answers (inserting p) fits (f.inserts p fits ok);
        formats = λ o fits ok. answers (formatting o) fits (f.formats o fits ok);
        formatted = λ o fits ok. either (formatting o) fits (f.formatted o fits ok);
        inserted = λ p fits ok e. either (inserting p) fits (f.inserted p fits ok e);
        removals = λ p fits ok. answers (removing p) fits (f.removals p fits ok);
        removed = λ p fits ok e. reply (removing p) fits ∙ f.removed p fits ok e;
        works = λ budget h. works of_splits budget (f.works budget h);
        squeezes = λ c budget fits h. squeezes (2 + u.begins) c budget fits (f.squeezes c budget fits h);
        rests = rw phase (λ e. f.rests.0 (stops.0 e), λ e. stops.1 (f.rests.1 e));
        splits = splits u.split f.splits;
      })
    where
      s : L.State
      s = t.state

      x : M.State
      x = u.state

      r : R s x
      r = b.state

      same : t ≡ record { state = s; book = u.book; fill = u.fill; begins = u.begins; split = u.split }
      same = λ i. record { state = s; book = b.book i; fill = b.fill i; begins = b.begins i; split = b.split i }

      reply : (c : Call) → CallFits c → (L.run c s).reply ≡ (M.run c x).reply
      reply c fits = sim.reply c fits s x r

      phase : phase_at L s ≡ phase_at M x
      phase = phase-same R sim s x r

      stops : (L.step of_splits s ≡ stopped Stop.Idle) ↔ (M.step of_splits x ≡ stopped Stop.Idle)
      stops = alike-stopped R (L.step of_splits s) (M.step of_splits x) Stop.Idle (sim.step of_splits s x r)

      works : (k : Kind) (budget : ℕ) → WorkIs M k x budget → WorkIs L k s budget
      works k budget w = sim.works k s x r budget (ap accepted w.reply)

      squeezes : (n c budget : ℕ) → CallFits (squeezing c budget) → SqueezeIs M n c x budget → SqueezeIs L n c s budget
      squeezes n c budget fits q =
          let job : (e : Bool) → of_job (phase_at L s) c ≡ e → of_job (phase_at M x) c ≡ e =
          λ e h. sym (ap (λ (ph : Phase). of_job ph c) phase) ∙ h in
          record {
            above = λ l. reply (squeezing c budget) fits ∙ q.above l;
            busy = λ l e. reply (squeezing c budget) fits ∙ q.busy l (job true e);
            free = λ l e. works (of_squeeze c) budget (q.free l (job false e));
          }

      job : (n : ℕ) (ph : Phase) → JobIs M n ph → JobIs L n ph
      job n Phase.None j = tt
      job n (Phase.Copying o d) j = j
      job n (Phase.Clearing o d) j = j

      answers : (c : Call) → CallFits c → {a : Reply} {B : Type 0}
          → ((M.run c x).reply ≡ a) ↔ B → ((L.run c s).reply ≡ a) ↔ B
      answers c fits e = (λ k. e.0 (sym (reply c fits) ∙ k), λ k. reply c fits ∙ e.1 k)

      either : (c : Call) → CallFits c → {a b : Reply}
          → ((M.run c x).reply ≡ a) ⊎ ((M.run c x).reply ≡ b) → ((L.run c s).reply ≡ a) ⊎ ((L.run c s).reply ≡ b)
      either c fits h = ⊎_elim (λ k. inl (reply c fits ∙ k)) (λ k. inr (reply c fits ∙ k)) h

      splits : (k : Split) → SplitIs M k x → SplitIs L k s
      splits no_split h = phase ∙ h
      splits (since r m k) h =
          rw phase (λ l. ((h.0 l).0, λ e. (h.0 l).1 (stops.0 e)), h.1, h.2)

module _ {M L : Machine} (R : L.State → M.State → Type 0) (sim : Simulates M L R)
    (i : M.State → Index) (j : L.State → Index) (same : (s : L.State) (x : M.State) → R s x → j s ≡ i x) where
  module _ (t : Moment L) (u : Moment M) (b : Beside R t u) where
    abbrev s : L.State
    s = t.state

    abbrev x : M.State
    x = u.state

    r : R s x
    r = b.state

    e : j s ≡ i x
    e = same s x r

    room-beside : RoomIs M i u → RoomIs L j t
    room-beside f =
        record {
          shows = record {
            wf = subst WF (sym e) f.shows.wf;
            fill = ap (λ (y : Index). y.fill) e ∙ f.shows.fill ∙ sym b.fill;
            newest = ap (λ (y : Index). y.max_bucket) e ∙ f.shows.newest ∙ ap suc (sym b.begins);
            phase = phase-same R sim s x r ∙ f.shows.phase ∙ ap (λ (y : Index). (standing y).phase) (sym e);
            holds = λ p.
                ap (λ (bk : Book). has bk p) b.book ∙ f.shows.holds p ∙ ap (λ (y : Index). held y p) (sym e);
          };
          inserts = λ p fits ok h. rw (sim.reply (inserting p) fits s x r, e) (f.inserts p fits ok (rw b.book at h));
          steps = rw e (λ h. f.steps.0 (a.0 h), λ h. a.1 (f.steps.1 h));
        }
      where
        a : (L.step of_splits s ≡ stopped Stop.NoRoom) ↔ (M.step of_splits x ≡ stopped Stop.NoRoom)
        a = alike-stopped R (L.step of_splits s) (M.step of_splits x) Stop.NoRoom (sim.step of_splits s x r)

    shift-beside : ShiftIs M i u → ShiftIs L j t
    shift-beside f =
        record {
          stops = λ c k.
              let a = alike-stopped R (L.step (of_squeeze c) s) (M.step (of_squeeze c) x) k (alike c) in
              rw e (λ h. (f.stops c k).0 (a.0 h), λ h. a.1 ((f.stops c k).1 h));
          moves = λ c y h.
              let g = alike_next R (L.step (of_squeeze c) s) (M.step (of_squeeze c) x) y (alike c) h in
              rw (e, same y g.state g.related) (f.moves c g.state g.goes);
          others = λ c d y ne h.
              let g = alike_next R (L.step (of_squeeze c) s) (M.step (of_squeeze c) x) y (alike c) h in
              rw (e, same y g.state g.related) (f.others c d g.state ne g.goes);
        }
      where
        alike : (c : ℕ) → Alike R (L.step (of_squeeze c) s) (M.step (of_squeeze c) x)
        alike c = sim.step (of_squeeze c) s x r

  -- what M does L does, and related states show the same index: so what is claimed of M's calls holds of L's
  pub transfer : Demand3 M i → Demand3 L j
  transfer =
      carry R sim (Holds M i) (Holds L j) (λ t u b h. (
        faithful-beside R sim t u b h.0,
        room-beside t u b h.1,
        shift-beside t u b h.2,
      ))
