-- The invariant of demand 3 holds at every moment of every list of calls.
use Rattle.std.specs.Prelude.{◌≡◌, refl, Bool, true, false, List, [], ◌∷◌, ℕ, zero, suc}
use Rattle.std.proofs.Common.{ap, ◌∙◌}
use Rattle.lists.specs.Lists.{Each}
use Rattle.lists.specs.ListsLaws.{each_append}
use Rattle.model.specs.declared.Phase.{Phase}
use Rattle.model.specs.Index.{Index}
use Rattle.model.specs.Steps.{Step, next, stopped, iterate}
use Rattle.model.specs.Machine.{Call, formatting, CallFits, Kind, of_splits, of_squeeze, accepted, Ran, run_index}
use Rattle.model.specs.Machine.{step_index, on_index}
use Rattle.model.proofs.MachineLaws.{never}
use Rattle.model.specs.Book.{Effect, empties, puts, takes, leaves, has_steps, effect}
use Rattle.model.specs.History.{Moment, phase_at, step_at, stepped, stages, last_of, within, marked, after, history}
use Rattle.model.specs.History.{start, Always}
use Rattle.model.proofs.RunLaws.{Running, refuses, formats, inserts, removes, reads, works, run-view}
use Rattle.model.proofs.Demand3InvLaws.{Inv, start-inv, format-inv, insert-inv, remove-inv, step-inv}

stages-inv : (k : Kind) (n : ℕ) (t : Moment on_index) → Inv t → Each Inv (stages on_index k n t)
stages-inv k zero t i = tt
stages-inv k (suc n) t i = go (step_index k t.state) refl (stages-inv k n)
  where
    go : (r : Step Index) → step_index k t.state ≡ r
        → ((u : Moment on_index) → Inv u → Each Inv (stages on_index k n u))
        → Each Inv (stages on_index k (suc n) t)
    go (next y) e ih = let j = step-inv k t y i e in rw (e, stages) (j, ih (stepped on_index k t y) j)
    go (stopped c) e ih = rw (e, stages) tt

last_of-inv : (ts : List (Moment on_index)) (t : Moment on_index) → Inv t → Each Inv ts → Inv (last_of on_index t ts)
last_of-inv [] t i h = i
last_of-inv (u ∷ ts) t i h = last_of-inv ts u h.0 h.1

-- the last moment of a work or squeeze call has the state that the call leaves
stages-end : (k : Kind) (n : ℕ) (t : Moment on_index)
    → (last_of on_index t (stages on_index k n t)).state ≡ (iterate (step_index k) n t.state).state
stages-end k zero t = refl
stages-end k (suc n) t = go (step_index k t.state) refl (λ y. stages-end k n (stepped on_index k t y))
  where
    split-of : (ph : Phase) (y : Index) → (step_at on_index ph t y).state ≡ y
    split-of Phase.None y = refl
    split-of (Phase.Copying o n) y = refl
    split-of (Phase.Clearing o n) y = refl

    state-of : (j : Kind) (y : Index) → (stepped on_index j t y).state ≡ y
    state-of of_splits y = split-of (phase_at on_index t.state) y
    state-of (of_squeeze b) y = refl

    go : (r : Step Index) → step_index k t.state ≡ r
        → ((y : Index) → let u = stepped on_index k t y in
        (last_of on_index u (stages on_index k n u)).state ≡ (iterate (step_index k) n u.state).state)
        → (last_of on_index t (stages on_index k (suc n) t)).state ≡ (iterate (step_index k) (suc n) t.state).state
    go (next y) e ih =
        rw (e, stages, iterate) (ih y ∙ ap (λ (z : Index). (iterate (step_index k) n z).state) (state-of k y))
    go (stopped c) e ih = rw (e, stages, iterate) refl

within-inv : (a : Bool) (e : Effect) (t : Moment on_index) → Inv t → Each Inv (within on_index a e t)
within-inv false e t i = tt
within-inv true (empties o) t i = tt
within-inv true (puts p) t i = tt
within-inv true (takes p) t i = tt
within-inv true leaves t i = tt
within-inv true (has_steps kind budget) t i = stages-inv kind budget t i

after-inv : (c : Call) → CallFits c → (t : Moment on_index) → Inv t → Inv (after on_index c t)
after-inv c fits t i = go (run-view c fits t.state)
  where
    refusal : (a : Bool) (e : Effect) → a ≡ false
        → Inv (marked on_index a e (last_of on_index t (within on_index a e t)) t.state)
    refusal true e h = never (cc)
    refusal false e h = i

    reading : (a : Bool) → Inv (marked on_index a leaves (last_of on_index t (within on_index a leaves t)) t.state)
    reading true = i
    reading false = i

    working : (a : Bool) (k : Kind) (n : ℕ) → a ≡ true
        → let y = (iterate (step_index k) n t.state).state in
        Inv (marked on_index a (has_steps k n) (last_of on_index t (within on_index a (has_steps k n) t)) y)
    working false k n h = never (cc)
    working true k n h = rw (← stages-end k n t) (last_of-inv (stages on_index k n t) t i (stages-inv k n t i))

    go : {e : Effect} {r : Ran Index} → Running t.state e r
        → let a = accepted r.reply in
        Inv (marked on_index a e (last_of on_index t (within on_index a e t)) r.state)
    go (refuses {e = e} {r = r} h) = refusal (accepted r) e h
    go (formats {o = o} small s f) = start-inv t.state o small s f
    go (inserts {p = p} {y = y} f e) = insert-inv p y f t i e
    go (removes {p = p} {y = y} e) = remove-inv p y t i e
    go (reads {r = r}) = reading (accepted r)
    go (works {kind = k} {budget = n} {r = r} h) = working (accepted r) k n h

history-inv : (cs : List Call) → Each CallFits cs → (t : Moment on_index) → Inv t → Each Inv (history on_index cs t)
history-inv [] fits t i = tt
history-inv (c ∷ cs) fits t i =
    let a = accepted (run_index c t.state).reply in
    let j = after-inv c fits.0 t i in
    each_append Inv (within on_index a (effect c) t) _ (within-inv a (effect c) t i)
    (j, history-inv cs fits.1 (after on_index c t) j)

pub always-inv : Always on_index Inv
always-inv x o small ok cs fits =
    let i = format-inv x o small ok in
    (i, history-inv cs fits (start on_index (run_index (formatting o) x).state o) i)
