-- What the calls answer on an index, by what it holds, its count and its job.
use Rattle.std.specs.Prelude.{◌≡◌, ◌≢◌, ◌↔◌, ◌⊎◌, Bool, true, false, not, ◌&&◌, List, [], ◌∷◌, ℕ, suc, ◌+◌, ◌*◌, ◌/◌, ◌≤◌, leb, ltb, length}
use Rattle.std.specs.Prelude.{Ok, Err}
use Rattle.std.proofs.Math.Path.{refl}
use Rattle.std.proofs.Common.{sym, ap, ◌∙◌, inl, inr, arith}
use borrow.Author.Tests.{ltb-false, le-ltb, le-leb, lt-leb, eqb-true, eqb-false, eq-eqb, ne_eqb}
use Rattle.std.proofs.Math.IntN.{sub_ℕ}
use Rattle.address.specs.Limits.{max_blocks}
use Rattle.address.specs.Address.{split_from}
use Rattle.page.specs.declared.Pair.{Pair}
use Rattle.page.specs.PairLaws.{no_way}
use Rattle.model.specs.declared.Order.{Order}
use Rattle.model.specs.declared.Refusal.{Refusal}
use Rattle.model.specs.declared.Stop.{Stop}
use Rattle.model.specs.declared.Phase.{Phase}
use Rattle.model.specs.Index.{Job, idle, copying, clearing, Index, bucket, old_bucket, new_bucket}
use Rattle.model.specs.Held.{held, matches, count, slack, wanted}
use Rattle.model.specs.Steps.{stopped, step}
use Rattle.model.specs.Calls.{format_ok, in_use, overwrites, pair_ok, Result, done, refused, format, format_in}
use Rattle.model.specs.Calls.{formatted, insert, remove, listed, lookup, phase_in, standing}
use Rattle.model.specs.Machine.{formatting, inserting, removing, asking, plain, looked, stands, settled}
use Rattle.model.specs.Machine.{run_index, on_index}
use Rattle.model.specs.WellFormed.{WF}
use Rattle.model.proofs.BoundLaws.{laid-size}
use Rattle.model.proofs.FormatLaws.{overwrite-ok}
use Rattle.model.proofs.MachineLaws.{never}
use Rattle.model.specs.Book.{Book, under}
use Rattle.model.specs.History.{phase_at}
use Rattle.model.specs.Demand.{LookupsIs, JobIs}
use Rattle.model.specs.Room.{NoPage}
use Rattle.model.proofs.RoomLaws.{insert-no_room}
use Rattle.model.proofs.FrameLaws.{step-idle}
use Rattle.model.proofs.ViewLaws.{Inserting, already, no_room, inserted, insert-view, Removing, absent, removed}
use Rattle.model.proofs.ViewLaws.{remove-view}

-- ---- 12

module _ (x : Index) (w : WF x) (o : Order) (ok : format_ok o ≡ true) where
  -- a well-formed index has a legal size, so that format goes by its third test alone
  format-reply : (run_index (formatting o) x).reply
      ≡ (settled x (format_in true true (not (overwrites o) && in_use x) (format x.size o))).reply
  unfolding run_index formatted
  format-reply =
      let l = le-leb 4 x.size (laid-size x w.laid) in
      rw (l, le-leb x.size max_blocks w.laid.size, ok) refl

  pub in_use-is : (bk : Book) → count x ≡ length bk
      → ((run_index (formatting o) x).reply ≡ plain (Err Refusal.InUse)) ↔ ((o.overwrite ≡ 0) × (bk ≢ []))
  in_use-is bk c = rw format-reply (go (overwrites o) refl bk c)
    where
      zero-or-one : o.overwrite ≤ 1
      zero-or-one = overwrite-ok o ok

      go : (a : Bool) → overwrites o ≡ a → (bk : Book) → count x ≡ length bk
          → ((settled x (format_in true true (not a && in_use x) (format x.size o))).reply
          ≡ plain (Err Refusal.InUse))
          ↔ ((o.overwrite ≡ 0) × (bk ≢ []))
      go true e bk c = (λ h. never (cc), λ h. absurd (omega (arith, eqb-true o.overwrite 1 e, h.0)))
      go false e [] c =
          let free : in_use x ≡ false = ap not (eq-eqb (count x) 0 c) in
          rw free (λ h. never (cc), λ h. absurd (h.1 refl))
      go false e (p ∷ ps) c =
          let used : in_use x ≡ true = ap not (ne_eqb (count x) 0 (λ q. omega (arith, q, c))) in
          rw used (λ h. (omega (arith, zero-or-one, eqb-false o.overwrite 1 e), λ q. never (cc)), λ h. refl)

  pub formatted-is : ((run_index (formatting o) x).reply ≡ plain (Ok tt))
      ⊎ ((run_index (formatting o) x).reply ≡ plain (Err Refusal.InUse))
  formatted-is = rw format-reply (go (not (overwrites o) && in_use x))
    where
      go : (u : Bool)
          → ((settled x (format_in true true u (format x.size o))).reply ≡ plain (Ok tt))
          ⊎ ((settled x (format_in true true u (format x.size o))).reply ≡ plain (Err Refusal.InUse))
      go true = inr refl
      go false = inl refl

-- ---- 5 and 6

pub held_already-is : (x : Index) (p : Pair) → pair_ok p ≡ true
    → ((run_index (inserting p) x).reply ≡ plain (Err Refusal.HeldAlready)) ↔ (held x p ≡ true)
unfolding run_index
held_already-is x p ok = go (insert x p) (insert-view x p)
  where
    go : (r : Result) → Inserting x p r
        → ((settled x r).reply ≡ plain (Err Refusal.HeldAlready)) ↔ (held x p ≡ true)
    go r (Inserting.wrong b) = no_way ok b
    go r (already b h) = (λ e. h, λ e. refl)
    go r (no_room b h v) = (λ e. never (cc), λ e. no_way e h)
    go r (inserted b h v) = (λ e. never (cc), λ e. no_way e h)

pub not_held-is : (x : Index) (p : Pair) → pair_ok p ≡ true
    → ((run_index (removing p) x).reply ≡ plain (Err Refusal.NotHeld)) ↔ (held x p ≡ false)
unfolding run_index
not_held-is x p ok = go (remove x p) (remove-view x p)
  where
    go : (r : Result) → Removing x p r → ((settled x r).reply ≡ plain (Err Refusal.NotHeld)) ↔ (held x p ≡ false)
    go r (Removing.wrong b) = no_way ok b
    go r (absent b h) = (λ e. h, λ e. refl)
    go r (removed b h) = (λ e. never (cc), λ e. no_way h e)

pub inserted-is : (x : Index) (p : Pair) → pair_ok p ≡ true → held x p ≡ false
    → ((run_index (inserting p) x).reply ≡ plain (Ok tt))
    ⊎ ((run_index (inserting p) x).reply ≡ plain (Err Refusal.NoRoom))
unfolding run_index
inserted-is x p ok e = go (insert x p) (insert-view x p)
  where
    go : (r : Result) → Inserting x p r
        → ((settled x r).reply ≡ plain (Ok tt)) ⊎ ((settled x r).reply ≡ plain (Err Refusal.NoRoom))
    go r (Inserting.wrong b) = no_way ok b
    go r (already b h) = no_way h e
    go r (no_room b h v) = inr refl
    go r (inserted b h v) = inl refl

pub removed-is : (x : Index) (p : Pair) → pair_ok p ≡ true → held x p ≡ true
    → (run_index (removing p) x).reply ≡ plain (Ok tt)
unfolding run_index
removed-is x p ok e = go (remove x p) (remove-view x p)
  where
    go : (r : Result) → Removing x p r → (settled x r).reply ≡ plain (Ok tt)
    go r (Removing.wrong b) = no_way ok b
    go r (absent b h) = no_way e h
    go r (removed b h) = refl

-- ---- 7

settled-no_room : (x : Index) (r : Result)
    → ((settled x r).reply ≡ plain (Err Refusal.NoRoom)) ↔ (r ≡ refused Refusal.NoRoom)
settled-no_room x (done y) = (λ e. never (cc), λ e. never (cc))
settled-no_room x (refused r) = (λ e. cc, λ e. cc)

pub no_room-is : (x : Index) (p : Pair) → pair_ok p ≡ true → held x p ≡ false
    → ((run_index (inserting p) x).reply ≡ plain (Err Refusal.NoRoom)) ↔ NoPage x (bucket x p)
unfolding run_index
no_room-is x p ok e =
    let n = insert-no_room x p ok e in
    let r = settled-no_room x (insert x p) in
    (λ h. n.0 (r.0 h), λ h. r.1 (n.1 h))

-- ---- lookup and standing

pub lookup-is : (x : Index) (bk : Book) (h : ℕ) (out : List ℕ) → matches x h ≡ under h bk → LookupsIs on_index bk x h out
unfolding run_index lookup
lookup-is x bk h out e =
    record {
      room = λ l. ap (λ ps. looked (listed (leb (length ps) (length out / 6)) ps out)) e
          ∙ ap (λ (b : Bool). looked (listed b (under h bk) out)) (le-leb (length (under h bk)) (length out / 6) l);
      short = λ l. ap (λ ps. looked (listed (leb (length ps) (length out / 6)) ps out)) e
          ∙ ap (λ (b : Bool). looked (listed b (under h bk) out)) (lt-leb (length (under h bk)) (length out / 6) l);
    }

pub standing-is : (x : Index) (n b fill : ℕ) → count x ≡ n → x.max_bucket ≡ suc b → x.fill ≡ fill
    → (run_index asking x).reply
    ≡ stands (Ok (record {
      count = n;
      buckets = 2 + b;
      phase = phase_at on_index x;
      slack = sub_ℕ (fill * (2 + b)) n;
    }))
unfolding run_index standing slack
standing-is x n b fill c m f = rw (c, m, f, two) refl
  where
    two : 2 + b ≡ suc (suc b)
    two = omega arith

-- ---- the job's phase

pub phase-job : (x : Index) → phase_at on_index x ≡ phase_in x.job (old_bucket x) (new_bucket x)
unfolding run_index standing
phase-job x = refl

pub job_is : (x : Index) (n : ℕ) → x.max_bucket ≡ n → JobIs on_index n (phase_at on_index x)
job_is x n e = rw (phase-job x) (go x.job)
  where
    go : (j : Job) → JobIs on_index n (phase_in j (old_bucket x) (new_bucket x))
    go idle = tt
    go copying = (ap split_from e, e)
    go clearing = (ap split_from e, e)

pub phase-none : (x : Index) → (phase_at on_index x ≡ Phase.None) ↔ (x.job ≡ idle)
phase-none x = rw (phase-job x) (go x.job)
  where
    go : (j : Job) → (phase_in j (old_bucket x) (new_bucket x) ≡ Phase.None) ↔ (j ≡ idle)
    go idle = (λ e. refl, λ e. refl)
    go copying = (λ e. never (cc), λ e. never (cc))
    go clearing = (λ e. never (cc), λ e. never (cc))

-- ---- 9

-- work stops with 9 exactly when there is no job and no split wanted
pub rests-is : (x : Index) (n m fill : ℕ) → count x ≡ n → suc x.max_bucket ≡ m → x.fill ≡ fill
    → (step x ≡ stopped Stop.Idle) ↔ ((phase_at on_index x ≡ Phase.None) × (n ≤ fill * m))
rests-is x n m fill c b f = (
  λ e. (let k = (step-idle x).0 e in ((phase-none x).1 k.0, full k.1)),
  λ e. (step-idle x).1 ((phase-none x).0 e.0, rests e.1),
)
  where
    at : wanted x ≡ ltb (fill * m) n
    at = unfold wanted in rw (c, b, f) refl

    full : wanted x ≡ false → n ≤ fill * m
    full e = ltb-false (fill * m) n (sym at ∙ e)

    rests : n ≤ fill * m → wanted x ≡ false
    rests l = at ∙ le-ltb (fill * m) n l
