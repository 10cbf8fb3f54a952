-- The invariant of demand 3, between an index and what is known of it. Format, insert, remove and each step keep it.
use Rattle.std.specs.Prelude.{◌≡◌, refl, ◌≢◌, Bool, true, false, not, ◌&&◌, ◌||◌, ℕ, suc, ◌+◌, ◌*◌, ◌≤◌}
use Rattle.std.proofs.Common.{sym, ap, ◌∙◌, arith}
use Rattle.page.specs.declared.Pair.{Pair}
use Rattle.page.specs.Pair.{same, ascending}
use Rattle.model.specs.declared.Order.{Order}
use Rattle.model.specs.Index.{Job, idle, copying, clearing, Index, old_bucket, new_bucket}
use Rattle.model.specs.Held.{self, held}
use Rattle.model.specs.Steps.{next, step}
use Rattle.model.specs.Squeeze.{squeeze_step}
use Rattle.model.specs.Calls.{size_ok, format_ok, in_use, overwrites, format, format_in, formatted, done, insert}
use Rattle.model.specs.Calls.{remove, phase_in}
use Rattle.model.specs.Machine.{formatting, inserting, CallFits, Kind, of_splits, of_squeeze, accepted, settled}
use Rattle.model.specs.Machine.{run_index, step_index, on_index}
use Rattle.model.proofs.MachineLaws.{never}
use Rattle.model.specs.Book.{has, puts, takes, movers, Split, no_split, since, one_step, one_removal}
use Rattle.model.specs.BookLaws.{noted-ascending, has-puts, has-takes}
use Rattle.model.specs.History.{Moment, step_at, stepped, marked, start}
use Rattle.model.specs.WellFormed.{WF}
use Rattle.model.proofs.FormatLaws.{format-wf, format-held}
use Rattle.model.proofs.FrameLaws.{insert-frame, remove-frame, begin-frame, job-frame, SameJob, squeeze-frame}
use Rattle.model.proofs.InsertLaws.{insert-wf, insert-held}
use Rattle.model.proofs.RemoveLaws.{remove-wf, remove-held}
use Rattle.model.proofs.StepLaws.{step-wf, step-held}
use Rattle.model.specs.StepsLeft.{steps_left}
use Rattle.model.proofs.StepsLeftLaws.{step-steps_left}
use Rattle.model.proofs.BeginLaws.{begin-steps_left, begin-movers}
use Rattle.model.specs.Busy.{saved}
use Rattle.model.proofs.BusyInsertLaws.{insert-steps_left}
use Rattle.model.proofs.BusyRemoveLaws.{saved-le, remove-steps_left}
use Rattle.model.proofs.SqueezeStepLaws.{squeeze-wf, squeeze-held, squeeze-steps_left}
use Rattle.model.proofs.Demand3AnswerLaws.{phase-job}

-- Before the first begin there is no job. A split still has to make the steps that its count lacks, but for two at most
-- for each removal.
abbrev pub Track : Split → Index → Type 0
Track no_split x = x.job ≡ idle
Track (since r m k) x = (steps_left x + k ≤ 2 * m + 3) × (2 * m + 3 ≤ steps_left x + k + 2 * r)

pub record Inv (t : Moment on_index) : Type 0 where
  pub wf : WF t.state
  pub set : ascending self t.book ≡ true
  pub agree : (p : Pair) → has t.book p ≡ held t.state p
  pub newest : t.state.max_bucket ≡ suc t.begins
  pub fill : t.state.fill ≡ t.fill
  pub track : Track t.split t.state

-- where the job and its steps stay
tracks : (x y : Index) (k : Split) → y.job ≡ x.job → steps_left y ≡ steps_left x → Track k x → Track k y
tracks x y no_split e l u = e ∙ u
tracks x y (since r m k) e l u = (omega (arith, u.0), omega (arith, u.1))

-- a removal
tracks-removal : (x y : Index) (n : ℕ) (k : Split) → y.job ≡ x.job → steps_left y + n ≡ steps_left x → n ≤ 2
    → Track k x → Track (one_removal k) y
tracks-removal x y n no_split e l h u = e ∙ u
tracks-removal x y n (since r m k) e l h u = (omega (arith, u.0), omega (arith, u.1))

-- ---- a format, an insert, a removal

pub start-inv : (x : Index) (o : Order) → CallFits (formatting o) → size_ok x.size ≡ true → format_ok o ≡ true
    → Inv (start on_index (format x.size o) o)
unfolding format
start-inv x o fits s f =
    record {
      wf = format-wf x.size o fits s f;
      set = refl;
      agree = λ p. sym (format-held x.size o fits s f p);
      newest = refl;
      fill = refl;
      track = refl;
    }

pub format-inv : (x : Index) (o : Order) → CallFits (formatting o)
    → accepted (run_index (formatting o) x).reply ≡ true
    → Inv (start on_index (run_index (formatting o) x).state o)
unfolding run_index formatted
format-inv x o fits h = go (size_ok x.size) (format_ok o) (not (overwrites o) && in_use x) refl refl h
  where
    go : (s f p : Bool) → size_ok x.size ≡ s → format_ok o ≡ f
        → accepted (settled x (format_in s f p (format x.size o))).reply ≡ true
        → Inv (start on_index (settled x (format_in s f p (format x.size o))).state o)
    go true true false e k h = start-inv x o fits e k
    go true true true e k h = never (cc)
    go true false p e k h = never (cc)
    go false f p e k h = never (cc)

pub insert-inv : (q : Pair) (y : Index) → CallFits (inserting q) → (t : Moment on_index) → Inv t
    → insert t.state q ≡ done y → Inv (marked on_index true (puts q) t y)
insert-inv q y fits t i e =
    let x = t.state in
    let g = insert-frame x q y e in
    let f = g.frame in
    record {
      wf = insert-wf x q y i.wf fits e;
      set = noted-ascending (puts q) t.book i.set;
      agree = λ p. has-puts q p t.book ∙ ap (λ (b : Bool). same p q || b) (i.agree p)
          ∙ sym (insert-held x q y i.wf fits e p);
      newest = f.max_bucket ∙ i.newest;
      fill = f.fill ∙ i.fill;
      track = tracks x y t.split g.job (insert-steps_left x q y i.wf e) i.track;
    }

pub remove-inv : (q : Pair) (y : Index) (t : Moment on_index) → Inv t → remove t.state q ≡ done y
    → Inv (marked on_index true (takes q) t y)
remove-inv q y t i e =
    let x = t.state in
    let g = remove-frame x q y e in
    let f = g.frame in
    record {
      wf = remove-wf x q y i.wf e;
      set = noted-ascending (takes q) t.book i.set;
      agree = λ p. has-takes q p t.book ∙ ap (λ (b : Bool). not (same p q) && b) (i.agree p)
          ∙ sym (remove-held x q y i.wf e p);
      newest = f.max_bucket ∙ i.newest;
      fill = f.fill ∙ i.fill;
      track =
          let l = remove-steps_left x q y i.wf e in
          tracks-removal x y (saved x q) t.split g.job l (saved-le x q) i.track;
    }

-- ---- a step

split-inv : (t : Moment on_index) (y : Index) → Inv t → step t.state ≡ next y → Inv (stepped on_index of_splits t y)
split-inv t y i h = rw (phase-job x) (go x.job refl)
  where
    x : Index
    x = t.state

    agrees : (p : Pair) → has t.book p ≡ held y p
    agrees p = i.agree p ∙ sym (step-held x y i.wf h p)

    more : x.job ≢ idle → (k : Split) → Track k x → Track (one_step k) y
    more ne no_split u = absurd (ne u)
    more ne (since r m k) u =
        let l = step-steps_left x y i.wf ne h in
        (omega (arith, l, u.0), omega (arith, l, u.1))

    in_job : x.job ≢ idle
        → Inv (record { state = y; book = t.book; fill = t.fill; begins = t.begins; split = one_step t.split })
    in_job ne =
        let f = job-frame x y ne h in
        record {
          wf = step-wf x y i.wf h;
          set = i.set;
          agree = agrees;
          newest = f.max_bucket ∙ i.newest;
          fill = f.fill ∙ i.fill;
          track = more ne t.split i.track;
        }

    newer : suc x.max_bucket ≡ 2 + t.begins
    newer = omega (arith, i.newest)

    begun : x.job ≡ idle → steps_left y ≡ 2 * movers (2 + t.begins) t.book + 2
    begun e =
        omega (
          arith,
          begin-steps_left x y i.wf e h,
          begin-movers x y i.wf e h t.book i.set i.agree,
          ap (λ (n : ℕ). movers n t.book) newer,
        )

    go : (j : Job) → x.job ≡ j → Inv (step_at on_index (phase_in j (old_bucket x) (new_bucket x)) t y)
    go copying e = in_job (λ k. never (cc))
    go clearing e = in_job (λ k. never (cc))
    go idle e =
        let f = begin-frame x y e h in
        let left = begun e in
        record {
          wf = step-wf x y i.wf h;
          set = i.set;
          agree = agrees;
          newest = f.max_bucket ∙ ap suc i.newest;
          fill = f.fill ∙ i.fill;
          track = (omega (arith, left), omega (arith, left));
        }

-- nothing but the state changes, and a split has as many steps left as it had
squeeze-inv : (b : ℕ) (t : Moment on_index) (y : Index) → Inv t → squeeze_step b t.state ≡ next y
    → Inv (stepped on_index (of_squeeze b) t y)
squeeze-inv b t y i h =
    record {
      wf = squeeze-wf b x y i.wf h;
      set = i.set;
      agree = λ p. i.agree p ∙ sym (squeeze-held b x y i.wf h p);
      newest = f.frame.max_bucket ∙ i.newest;
      fill = f.frame.fill ∙ i.fill;
      track = tracks x y t.split f.job (squeeze-steps_left b x y i.wf h) i.track;
    }
  where
    x : Index
    x = t.state

    f : SameJob t.state y
    f = squeeze-frame b x y h

pub step-inv : (k : Kind) (t : Moment on_index) (y : Index) → Inv t → step_index k t.state ≡ next y
    → Inv (stepped on_index k t y)
step-inv of_splits = split-inv
step-inv (of_squeeze b) = squeeze-inv b
