-- Own steps and calls between them carry over from a machine L to a machine M that it does as.
use Rattle.std.specs.Prelude.{◌≡◌, Bool, ℕ, ◌+◌}
use Rattle.std.proofs.Common.{sym, ap, ◌∙◌, subst}
use Rattle.model.specs.Index.{Index}
use Rattle.model.specs.Machine.{of_splits, accepted, Machine}
use Rattle.model.specs.Book.{effect}
use Rattle.model.proofs.SimulationLaws.{alike_next, Simulates}
use Rattle.model.specs.Busy.{Between, saves, Busy, begun, steps, calls}

module _ {M L : Machine} (R : L.State → M.State → Type 0) (sim : Simulates M L R)
    (i : M.State → Index) (j : L.State → Index) (same : (s : L.State) (x : M.State) → R s x → j s ≡ i x) where
  -- a state of M beside one of L, by as many own steps and savings
  pub record BusyBeside (x : M.State) (k l : ℕ) (t : L.State) : Type 0 where
    pub state : M.State
    pub related : R t state
    pub busy : Busy M i x k l state

  pub busy-beside : {s : L.State} {x : M.State} → R s x → {k l : ℕ} {t : L.State} → Busy L j s k l t
      → BusyBeside x k l t
  busy-beside {s} {x} r begun = record { state = x; related = r; busy = begun }
  busy-beside r (steps {t = t} {u = u} b ne h) =
      let p = busy-beside r b in
      let g = alike_next R (L.step of_splits t) (M.step of_splits p.state) u
      (sim.step of_splits t p.state p.related) h in
      record {
        state = g.state;
        related = g.related;
        busy = steps p.busy (λ e. ne (ap (λ (y : Index). y.job) (same t p.state p.related) ∙ e)) g.goes;
      }
  busy-beside {s} {x} r (calls {t = t} {k = k} {l = l} c fits between b) =
      let p = busy-beside r b in
      let e : accepted (M.run c p.state).reply ≡ accepted (L.run c t).reply =
      ap accepted (sym (sim.reply c fits t p.state p.related)) in
      record {
        state = (M.run c p.state).state;
        related = sim.state c fits t p.state p.related;
        busy = subst (λ (n : ℕ). Busy M i x k (l + n) (M.run c p.state).state)
            (ap (λ (a : Bool). saves a (effect c) (i p.state)) e
            ∙ ap (saves (accepted (L.run c t).reply) (effect c)) (sym (same t p.state p.related)))
            (calls c fits (subst (λ (a : Bool). Between a (effect c)) (sym e) between) p.busy);
      }
