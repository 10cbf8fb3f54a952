-- Size, fill, store number, max bucket and job after each call and step; when a step stops.
use Rattle.std.specs.Prelude.{◌≡◌, refl, ◌≢◌, ◌↔◌, Bool, true, false, List, ℕ, suc, eqb}
use Rattle.std.proofs.Common.{sym, subst, arith}
use Rattle.std.proofs.Math.Option.{Option, none, some}
use Rattle.page.specs.declared.Pair.{Pair}
use Rattle.page.specs.declared.Entry.{Entry}
use Rattle.model.specs.declared.Stop.{Stop}
use Rattle.model.specs.Index.{Chain, Job, idle, copying, clearing, Index, chain, bucket, new_bucket}
use Rattle.model.specs.Pages.{cut}
use Rattle.model.specs.Held.{wanted}
use Rattle.model.specs.Steps.{Step, next, stopped, step}
use Rattle.model.specs.Squeeze.{mover, squeeze_in, squeeze_step}
use Rattle.model.specs.Calls.{done, insert, cut_held, remove}
use Rattle.model.proofs.ViewLaws.{Putting, put_as, Inserting, inserted, insert-view, Removing, removed}
use Rattle.model.proofs.ViewLaws.{remove-view, Stepping, resting, unbegun, began, uncopied, copied, copied_all}
use Rattle.model.proofs.ViewLaws.{cleared, cleared_all, step-view}
use Rattle.model.proofs.BeginLaws.{begin-widens}

-- y differs from x in its spares, its chains and perhaps its job
pub record Framed (x y : Index) : Type 0 where
  pub size : y.size ≡ x.size
  pub fill : y.fill ≡ x.fill
  pub number : y.number ≡ x.number
  pub max_bucket : y.max_bucket ≡ x.max_bucket

-- an index made of x, with other spares, job and chains
framed : {x : Index} {spares : List ℕ} {job : Job} {chains : List Chain} → Framed x (record {
  size = x.size;
  fill = x.fill;
  number = x.number;
  max_bucket = x.max_bucket;
  spares = spares;
  job = job;
  chains = chains;
})
framed = record { size = refl; fill = refl; number = refl; max_bucket = refl }

-- framed, and with the same job
pub record SameJob (x y : Index) : Type 0 where
  pub frame : Framed x y
  pub job : y.job ≡ x.job

put-frame : {x : Index} {b : ℕ} {e : Entry} {y : Index} → Putting x b e (some y) → SameJob x y
put-frame {x} v =
    let a = put_as v in
    subst (SameJob x) (sym a.index)
    (record { frame = framed; job = refl })

pub insert-frame : (x : Index) (q : Pair) (y : Index) → insert x q ≡ done y → SameJob x y
insert-frame x q y h = go (rw h at (insert-view x q))
  where
    go : {z : Index} → Inserting x q (done z) → SameJob x z
    go (inserted k l v) = put-frame v

pub remove-frame : (x : Index) (q : Pair) (y : Index) → remove x q ≡ done y → SameJob x y
unfolding cut
remove-frame x q y h = go (rw h at (remove-view x q))
  where
    cuts : (j : Job) (b : Bool) → SameJob x (cut_held j x q b)
    cuts idle b = record { frame = framed; job = refl }
    cuts clearing b = record { frame = framed; job = refl }
    cuts copying true = record { frame = framed; job = refl }
    cuts copying false = record { frame = framed; job = refl }

    go : {z : Index} → Removing x q (done z) → SameJob x z
    go (removed k l) = cuts x.job (eqb (bucket x q) (new_bucket x))

-- a begin makes one bucket more, and copying the job
pub record Begun (x y : Index) : Type 0 where
  pub size : y.size ≡ x.size
  pub fill : y.fill ≡ x.fill
  pub number : y.number ≡ x.number
  pub max_bucket : y.max_bucket ≡ suc x.max_bucket
  pub job : y.job ≡ copying

pub begin-frame : (x y : Index) → x.job ≡ idle → step x ≡ next y → Begun x y
begin-frame x y j h =
    let b = begin-widens x y j h in
    subst (Begun x) (sym b.1) (record { size = refl; fill = refl; number = refl; max_bucket = refl; job = refl })

pub job-frame : (x y : Index) → x.job ≢ idle → step x ≡ next y → Framed x y
unfolding cut
job-frame x y j h = go (rw h at (step-view x))
  where
    go : {z : Index} → Stepping x (next z) → Framed x z
    go (began i k v) = absurd (j i)
    go (copied i e k v) = (put-frame v).frame
    go (copied_all i k) = framed
    go (cleared i e k) = framed
    go (cleared_all i k) = framed

pub squeeze-frame : (b : ℕ) (x y : Index) → squeeze_step b x ≡ next y → SameJob x y
unfolding squeeze_step
squeeze-frame b x y h = go (mover (chain x b)) h
  where
    same : {z : Index} → ◌≡◌ {A = Step Index} (next z) (next y) → z ≡ y
    same q = cc

    go : (m : Option Entry) → squeeze_in m b x ≡ next y → SameJob x y
    go (some e) h = subst (SameJob x) (same h) (record { frame = framed; job = refl })
    go none h = let z : ◌≡◌ {A = ℕ} 0 1 = cc in absurd (omega arith)

-- ---- N and the store number stay

pub record SameStore (x y : Index) : Type 0 where
  pub size : y.size ≡ x.size
  pub number : y.number ≡ x.number

pub step-store : (x y : Index) → step x ≡ next y → SameStore x y
step-store x y e = go x.job refl
  where
    busy : x.job ≢ idle → SameStore x y
    busy ne = let f = job-frame x y ne e in record { size = f.size; number = f.number }

    go : (j : Job) → x.job ≡ j → SameStore x y
    go idle q = let f = begin-frame x y q e in record { size = f.size; number = f.number }
    go copying q = busy (λ r. let z : ◌≡◌ {A = ℕ} 0 1 = cc in omega arith)
    go clearing q = busy (λ r. let z : ◌≡◌ {A = ℕ} 0 1 = cc in omega arith)

-- ---- stops

-- a step is idle exactly without a job and with no split wanted
pub step-idle : (x : Index) → (step x ≡ stopped Stop.Idle) ↔ ((x.job ≡ idle) × (wanted x ≡ false))
step-idle x = (λ h. to (rw h at (step-view x)), λ k. from k.0 k.1 (step-view x))
  where
    to : Stepping x (stopped Stop.Idle) → (x.job ≡ idle) × (wanted x ≡ false)
    to (resting j w) = (j, w)

    from : x.job ≡ idle → wanted x ≡ false → {r : Step Index} → Stepping x r → r ≡ stopped Stop.Idle
    from j w (resting i k) = refl
    from j w (unbegun i k v) = let z : ◌≡◌ {A = ℕ} 0 1 = cc in absurd (omega arith)
    from j w (began i k v) = let z : ◌≡◌ {A = ℕ} 0 1 = cc in absurd (omega arith)
    from j w (uncopied i e k v) = let z : ◌≡◌ {A = ℕ} 0 1 = cc in absurd (omega arith)
    from j w (copied i e k v) = let z : ◌≡◌ {A = ℕ} 0 1 = cc in absurd (omega arith)
    from j w (copied_all i k) = let z : ◌≡◌ {A = ℕ} 0 1 = cc in absurd (omega arith)
    from j w (cleared i e k) = let z : ◌≡◌ {A = ℕ} 0 1 = cc in absurd (omega arith)
    from j w (cleared_all i k) = let z : ◌≡◌ {A = ℕ} 0 1 = cc in absurd (omega arith)

-- and never in a job
pub job-not-idle : (x : Index) → x.job ≢ idle → step x ≢ stopped Stop.Idle
job-not-idle x ne e = ne ((step-idle x).0 e).0
