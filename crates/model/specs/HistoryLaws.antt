-- The moments of a list of calls, of any machine: what follows from what always holds; the moment after a call; what
-- each call and each step keeps holds at every moment.
use Rattle.std.specs.Prelude.{◌≡◌, refl, Bool, true, false, cond, List, [], ◌∷◌, ◌++◌, ℕ, zero, suc}
use Rattle.std.proofs.Common.{◌∙◌}
use Rattle.lists.specs.Lists.{Each}
use Rattle.lists.specs.ListsLaws.{each_append}
use Rattle.page.specs.SublistLaws.{each_map}
use Rattle.model.specs.declared.Phase.{Phase}
use Rattle.model.specs.Steps.{Step, next, stopped}
use Rattle.model.specs.Machine.{Call, formatting, CallFits, Kind, of_splits, of_squeeze, accepted, Machine}
use Rattle.model.specs.Book.{Effect, empties, puts, takes, leaves, has_steps, effect, noted}
use Rattle.model.specs.History.{Moment, phase_at, step_at, stepped, stages, last_of, within, marked, after, history}
use Rattle.model.specs.History.{start, Always}

pub always-map : {M : Machine} (P Q : Moment M → Type 0) → ((t : Moment M) → P t → Q t) → Always M P → Always M Q
always-map {M} P Q f d s o small ok cs fits =
    let t = start M (M.run (formatting o) s).state o in
    each_map P Q f (t ∷ history M cs t) (d s o small ok cs fits)

-- ---- the moment after a call

module _ (M : Machine) where
  pub last-append : (t : Moment M) (us : List (Moment M)) (v : Moment M) (vs : List (Moment M))
      → last_of M t (us ++ v ∷ vs) ≡ last_of M v vs
  last-append t [] v vs = refl
  last-append t (u ∷ us) v vs = last-append u us v vs

  -- its state is the one that the call left
  pub after-state : (c : Call) (t : Moment M) → (after M c t).state ≡ (M.run c t.state).state
  after-state c t = go (accepted (M.run c t.state).reply) _
    where
      go : (a : Bool) (u : Moment M)
          → (marked M a (effect c) u (M.run c t.state).state).state ≡ (M.run c t.state).state
      go true u = refl
      go false u = refl

  -- steps leave the book alone
  stages-book : (k : Kind) (n : ℕ) (t : Moment M) → (last_of M t (stages M k n t)).book ≡ t.book
  stages-book k zero t = refl
  stages-book k (suc n) t = go (M.step k t.state) refl (stages-book k n)
    where
      split : (ph : Phase) (s : M.State) → (step_at M ph t s).book ≡ t.book
      split Phase.None s = refl
      split (Phase.Copying o n) s = refl
      split (Phase.Clearing o n) s = refl

      kept : (j : Kind) (s : M.State) → (stepped M j t s).book ≡ t.book
      kept of_splits s = split (phase_at M t.state) s
      kept (of_squeeze b) s = refl

      go : (r : Step M.State) → M.step k t.state ≡ r
          → ((u : Moment M) → (last_of M u (stages M k n u)).book ≡ u.book)
          → (last_of M t (stages M k (suc n) t)).book ≡ t.book
      go (next s) e ih = rw (e, stages) (ih (stepped M k t s) ∙ kept k s)
      go (stopped c) e ih = rw (e, stages) refl

  -- its book is what the call's effect makes of the book before, if the call was accepted
  pub after-book : (c : Call) (t : Moment M)
      → (after M c t).book ≡ cond (accepted (M.run c t.state).reply) (noted (effect c) t.book) t.book
  after-book c t = go (accepted (M.run c t.state).reply) (effect c)
    where
      go : (a : Bool) (e : Effect)
          → (marked M a e (last_of M t (within M a e t)) (M.run c t.state).state).book
          ≡ cond a (noted e t.book) t.book
      go false e = refl
      go true (empties o) = refl
      go true (puts p) = refl
      go true (takes p) = refl
      go true leaves = refl
      go true (has_steps kind budget) = stages-book kind budget t

-- ---- what each call and each step keeps holds at every moment

module _ (M : Machine) (P : M.State → Type 0)
    (calls : (c : Call) → CallFits c → (s : M.State) → P s → P (M.run c s).state)
    (steps : (k : Kind) (s t : M.State) → P s → M.step k s ≡ next t → P t) where
  abbrev At : Moment M → Type 0
  At t = P t.state

  stepped-keeps : (k : Kind) (t : Moment M) (s : M.State) → P s → At (stepped M k t s)
  stepped-keeps (of_squeeze b) t s p = p
  stepped-keeps of_splits t s p = go (phase_at M t.state)
    where
      go : (ph : Phase) → At (step_at M ph t s)
      go Phase.None = p
      go (Phase.Copying o n) = p
      go (Phase.Clearing o n) = p

  stages-keep : (k : Kind) (n : ℕ) (t : Moment M) → At t → Each At (stages M k n t)
  stages-keep k zero t p = tt
  stages-keep k (suc n) t p = go (M.step k t.state) refl (stages-keep k n)
    where
      go : (r : Step M.State) → M.step k t.state ≡ r → ((u : Moment M) → At u → Each At (stages M k n u))
          → Each At (stages M k (suc n) t)
      go (next s) e ih =
          let q = stepped-keeps k t s (steps k t.state s p e) in
          rw (e, stages) (q, ih (stepped M k t s) q)
      go (stopped c) e ih = rw (e, stages) tt

  within-keeps : (a : Bool) (f : Effect) (t : Moment M) → At t → Each At (within M a f t)
  within-keeps false f t p = tt
  within-keeps true (empties o) t p = tt
  within-keeps true (puts q) t p = tt
  within-keeps true (takes q) t p = tt
  within-keeps true leaves t p = tt
  within-keeps true (has_steps kind budget) t p = stages-keep kind budget t p

  marked-keeps : (a : Bool) (f : Effect) (t : Moment M) (s : M.State) → P s → At (marked M a f t s)
  marked-keeps true f t s p = p
  marked-keeps false f t s p = p

  pub history-keeps : (cs : List Call) → Each CallFits cs → (t : Moment M) → P t.state
      → Each (λ (u : Moment M). P u.state) (history M cs t)
  history-keeps [] f t p = tt
  history-keeps (c ∷ cs) f t p =
      let q = calls c f.0 t.state p in
      let a = accepted (M.run c t.state).reply in
      let k = marked-keeps a (effect c) _ (M.run c t.state).state q in
      each_append At (within M a (effect c) t) _ (within-keeps a (effect c) t p)
      (k, history-keeps cs f.1 (after M c t) k)
