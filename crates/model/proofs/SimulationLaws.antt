-- A machine L that does as a machine M does, state beside state: its moments stand beside M's, so what is always so of
-- the one is always so of the other.
use Rattle.std.specs.Prelude.{◌≡◌, refl, ◌↔◌, Bool, true, false, List, [], ◌∷◌, ◌++◌, ℕ, zero, suc, ◌+◌}
use Rattle.std.proofs.Common.{ap, ap₂, subst}
use Rattle.lists.specs.Lists.{Each}
use Rattle.model.specs.declared.Order.{Order}
use Rattle.model.specs.declared.Stop.{Stop}
use Rattle.model.specs.declared.Phase.{Phase}
use Rattle.model.specs.Steps.{Step, next, stopped, Worked, iterate}
use Rattle.model.specs.Machine.{Call, formatting, asking, CallFits, Kind, of_splits, of_squeeze, stepping, accepted}
use Rattle.model.specs.Machine.{Machine}
use Rattle.model.proofs.MachineLaws.{never}
use Rattle.model.specs.Book.{Effect, empties, puts, takes, leaves, has_steps, effect, noted, movers, since}
use Rattle.model.specs.Book.{one_step, counted, filled, begun}
use Rattle.model.specs.History.{Moment, phase_at, step_at, stepped, stages, last_of, within, marked, after, history}
use Rattle.model.specs.History.{start, Always}
use Rattle.model.specs.Demand.{WorkIs}

-- ---- steps

module _ {S T : Type 0} (R : S → T → Type 0) where
  -- both go on, to related states, or both stop with the same stop
  abbrev pub Alike : Step S → Step T → Type 0
  Alike (next s) (next t) = R s t
  Alike (next s) (stopped c) = ⊥
  Alike (stopped c) (next t) = ⊥
  Alike (stopped c) (stopped d) = c ≡ d

  pub record WorkedAlike (v : Worked S) (w : Worked T) : Type 0 where
    pub steps : v.steps ≡ w.steps
    pub stop : v.stop ≡ w.stop
    pub state : R v.state w.state

  -- steps that are alike, one after the other
  pub iterate-alike : (f : S → Step S) (g : T → Step T) → ((s : S) (t : T) → R s t → Alike (f s) (g t))
      → (n : ℕ) (s : S) (t : T) → R s t → WorkedAlike (iterate f n s) (iterate g n t)
  iterate-alike f g h zero s t r = record { steps = refl; stop = refl; state = r }
  iterate-alike f g h (suc n) s t r = go (f s) (g t) refl refl (h s t r) (iterate-alike f g h n)
    where
      go : (a : Step S) (b : Step T) → f s ≡ a → g t ≡ b → Alike a b
          → ((u : S) (v : T) → R u v → WorkedAlike (iterate f n u) (iterate g n v))
          → WorkedAlike (iterate f (suc n) s) (iterate g (suc n) t)
      go (next u) (next v) d e k ih =
          let w = ih u v k in
          rw (d, e, iterate) (record { steps = ap suc w.steps; stop = w.stop; state = w.state })
      go (next u) (stopped c) d e k ih = absurd k
      go (stopped c) (next v) d e k ih = absurd k
      go (stopped c) (stopped i) d e k ih = rw (d, e, iterate) (record { steps = refl; stop = k; state = r })

  pub alike-stopped : (a : Step S) (b : Step T) (c : Stop) → Alike a b → (a ≡ stopped c) ↔ (b ≡ stopped c)
  alike-stopped (next u) (next v) c k = (λ e. never (cc), λ e. never (cc))
  alike-stopped (next u) (stopped d) c k = absurd k
  alike-stopped (stopped d) (next v) c k = absurd k
  alike-stopped (stopped d) (stopped e) c k = (λ h. cc, λ h. cc)

  -- one that goes on goes beside one that goes on
  pub record Goes (b : Step T) (s : S) : Type 0 where
    pub state : T
    pub goes : b ≡ next state
    pub related : R s state

  pub alike_next : (a : Step S) (b : Step T) (s : S) → Alike a b → a ≡ next s → Goes b s
  alike_next (next u) (next v) s k e =
      let h : u ≡ s = cc in record { state = v; goes = refl; related = subst (λ (u : S). R u v) h k }
  alike_next (next u) (stopped d) s k e = absurd k
  alike_next (stopped d) b s k e = never (cc)

-- two lists of the same length, element beside element
data Both {A B : Type 0} (P : A → B → Type 0) : List A → List B → Type 0 where
  ends : Both P [] []
  also : {a : A} {b : B} {xs : List A} {ys : List B} → P a b → Both P xs ys → Both P (a ∷ xs) (b ∷ ys)

both-append : {A B : Type 0} {P : A → B → Type 0} {xs : List A} {ys : List B} {xs₂ : List A} {ys₂ : List B}
    → Both P xs ys → Both P xs₂ ys₂ → Both P (xs ++ xs₂) (ys ++ ys₂)
both-append ends k = k
both-append (also p h) k = also p (both-append h k)

both-each : {A B : Type 0} {P : A → B → Type 0} {xs : List A} {ys : List B} (Q : A → Type 0) (S : B → Type 0)
    → ((a : A) (b : B) → P a b → S b → Q a) → Both P xs ys → Each S ys → Each Q xs
both-each Q S f ends h = tt
both-each Q S f (also {a = a} {b = b} p k) h = (f a b p h.0, both-each Q S f k h.1)

-- ---- machines

module _ (M L : Machine) (R : L.State → M.State → Type 0) where
  -- a state of M whose format ends beside that of s
  pub record Formats (s : L.State) (o : Order) : Type 0 where
    pub from : M.State
    pub taken : accepted (M.run (formatting o) from).reply ≡ true
    pub related : R (L.run (formatting o) s).state (M.run (formatting o) from).state

  pub record Simulates : Type 0 where
    -- related states answer every call alike, and are related afterwards
    pub reply : (c : Call) → CallFits c → (s : L.State) (x : M.State) → R s x
        → (L.run c s).reply ≡ (M.run c x).reply
    pub state : (c : Call) → CallFits c → (s : L.State) (x : M.State) → R s x
        → R (L.run c s).state (M.run c x).state
    pub step : (k : Kind) (s : L.State) (x : M.State) → R s x → Alike R (L.step k s) (M.step k x)
    pub stored : (s : L.State) (x : M.State) → R s x → L.stored s ≡ M.stored x
    -- L's work and squeeze calls that M accepts are made of L's own steps (`iterate-works`)
    pub works : (k : Kind) (s : L.State) (x : M.State) → R s x → (budget : ℕ)
        → accepted (M.run (stepping k budget) x).reply ≡ true → WorkIs L k s budget
    -- whatever L formats, some state of M formats to a related one
    pub formats : (s : L.State) (o : Order) → CallFits (formatting o)
        → accepted (L.run (formatting o) s).reply ≡ true → Formats s o

-- moments with related states that know the same
module _ {M L : Machine} (R : L.State → M.State → Type 0) where
  pub record Beside (t : Moment L) (u : Moment M) : Type 0 where
    pub state : R t.state u.state
    pub book : t.book ≡ u.book
    pub fill : t.fill ≡ u.fill
    pub begins : t.begins ≡ u.begins
    pub split : t.split ≡ u.split

  step_in-beside : (ph : Phase) (t : Moment L) (u : Moment M) (s : L.State) (x : M.State) → Beside t u → R s x
      → Beside (step_at L ph t s) (step_at M ph u x)
  step_in-beside Phase.None t u s x b r =
      record {
        state = r;
        book = b.book;
        fill = b.fill;
        begins = ap suc b.begins;
        split = ap₂ (λ (n : ℕ) bk. since 0 (movers (2 + n) bk) 1) b.begins b.book;
      }
  step_in-beside (Phase.Copying o n) t u s x b r =
      record { state = r; book = b.book; fill = b.fill; begins = b.begins; split = ap one_step b.split }
  step_in-beside (Phase.Clearing o n) t u s x b r =
      record { state = r; book = b.book; fill = b.fill; begins = b.begins; split = ap one_step b.split }

  last_of-beside : {ts : List (Moment L)} {us : List (Moment M)} (t : Moment L) (u : Moment M)
      → Both Beside ts us → Beside t u → Beside (last_of L t ts) (last_of M u us)
  last_of-beside t u ends b = b
  last_of-beside t u (also {a = v} {b = w} d h) b = last_of-beside v w h d

  marked-beside : (a : Bool) (e : Effect) (t : Moment L) (u : Moment M) (s : L.State) (x : M.State)
      → Beside t u → R s x → Beside (marked L a e t s) (marked M a e u x)
  marked-beside false e t u s x b r =
      record { state = r; book = b.book; fill = b.fill; begins = b.begins; split = b.split }
  marked-beside true e t u s x b r =
      record {
        state = r;
        book = ap (noted e) b.book;
        fill = ap (filled e) b.fill;
        begins = ap (begun e) b.begins;
        split = ap (counted e) b.split;
      }

  module _ (sim : Simulates M L R) where
    pub phase-same : (s : L.State) (x : M.State) → R s x → phase_at L s ≡ phase_at M x
    phase-same s x r = rw (sim.reply asking tt s x r, phase_at) refl

    stepped-beside : (k : Kind) (t : Moment L) (u : Moment M) (s : L.State) (x : M.State) → Beside t u → R s x
        → Beside (stepped L k t s) (stepped M k u x)
    stepped-beside (of_squeeze c) t u s x b r =
        record { state = r; book = b.book; fill = b.fill; begins = b.begins; split = b.split }
    stepped-beside of_splits t u s x b r =
        rw (phase-same t.state u.state b.state) (step_in-beside (phase_at M u.state) t u s x b r)

    stages-beside : (k : Kind) (n : ℕ) (t : Moment L) (u : Moment M) → Beside t u
        → Both Beside (stages L k n t) (stages M k n u)
    stages-beside k zero t u b = ends
    stages-beside k (suc n) t u b =
        go (L.step k t.state) (M.step k u.state) refl refl (sim.step k t.state u.state b.state)
        (stages-beside k n)
      where
        go : (p : Step L.State) (q : Step M.State) → L.step k t.state ≡ p → M.step k u.state ≡ q
            → Alike R p q → ((v : Moment L) (w : Moment M) → Beside v w → Both Beside (stages L k n v) (stages M k n w))
            → Both Beside (stages L k (suc n) t) (stages M k (suc n) u)
        go (next s) (next x) d e a ih =
            let h = stepped-beside k t u s x b a in
            rw (d, e, stages) (also h (ih (stepped L k t s) (stepped M k u x) h))
        go (next s) (stopped c) d e a ih = absurd a
        go (stopped c) (next x) d e a ih = absurd a
        go (stopped c) (stopped i) d e a ih = rw (d, e, stages) ends

    within-beside : (a : Bool) (e : Effect) (t : Moment L) (u : Moment M) → Beside t u
        → Both Beside (within L a e t) (within M a e u)
    within-beside false e t u b = ends
    within-beside true (empties o) t u b = ends
    within-beside true (puts p) t u b = ends
    within-beside true (takes p) t u b = ends
    within-beside true leaves t u b = ends
    within-beside true (has_steps kind budget) t u b = stages-beside kind budget t u b

    history-beside : (cs : List Call) (t : Moment L) (u : Moment M) → Each CallFits cs → Beside t u
        → Both Beside (history L cs t) (history M cs u)
    history-beside [] t u fits b = ends
    history-beside (c ∷ cs) t u fits b =
        let k = within-beside a (effect c) t u b in
        let d = marked-beside a (effect c) _ _ (L.run c t.state).state (M.run c u.state).state
        (last_of-beside t u k b) (sim.state c fits.0 t.state u.state b.state) in
        rw (ap accepted (sim.reply c fits.0 t.state u.state b.state))
        (both-append k (also d (history-beside cs _ (after M c u) fits.1 d)))
      where
        a : Bool
        a = accepted (M.run c u.state).reply

-- what is always so of M's moments is always so, in its own words, of L's
pub carry : {M L : Machine} (R : L.State → M.State → Type 0) → Simulates M L R
    → (Q : Moment M → Type 0) (P : Moment L → Type 0) → ((t : Moment L) (u : Moment M) → Beside R t u → Q u → P t)
    → Always M Q → Always L P
carry {M} {L} R sim Q P f d s o small ok cs fits =
    both-each P Q f (also b (history-beside R sim cs t u fits b)) (d g.from o small g.taken cs fits)
  where
    g : Formats M L R s o
    g = sim.formats s o small ok

    t : Moment L
    t = start L (L.run (formatting o) s).state o

    u : Moment M
    u = start M (M.run (formatting o) g.from).state o

    b : Beside R t u
    b = record { state = g.related; book = refl; fill = refl; begins = refl; split = refl }
