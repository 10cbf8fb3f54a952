-- What happens to a store and its journal leaves, once recovered, the store of the calls that it counts as.
use Rattle.std.specs.Prelude.{◌≡◌, refl, Bool, true, false, cond, List, [], ◌∷◌, ◌++◌, ℕ, suc, length}
use Rattle.std.proofs.Common.{sym, ap, ◌∙◌, subst, ⊎_elim}
use Rattle.lists.specs.Lists.{Each}
use Rattle.lists.specs.ListsLaws.{each_append}
use Rattle.model.specs.Index.{Index}
use Rattle.model.specs.Steps.{next}
use Rattle.model.specs.Machine.{Call, CallFits, Kind, stepping, accepted}
use Rattle.model.specs.Book.{effect}
use Rattle.model.specs.History.{Moment, last_of, within, after, history}
use Rattle.model.specs.HistoryLaws.{last-append, after-state}
use Rattle.model.proofs.MachineLaws.{never}
use Rattle.model.proofs.SimulationLaws.{alike_next}
use Rattle.image.specs.SoundStore.{Encodes, StaysSound}
use Rattle.image.proofs.BridgeTheorem.{encoding-is-sound}
use Rattle.outcomes.specs.Outcomes.{run_store, step_store, on_store}
use Rattle.outcomes.proofs.OutcomeIndexLaws.{step-alike}
use Rattle.outcomes.proofs.OutcomeMachineLaws.{simulates}
use Rattle.outcomes.proofs.OutcomeHistoryLaws.{keeps-call}
use Rattle.journal.specs.Journal.{Disk, BlockStore, copy_stores, wipe, run, recover, recovery_stores}
use Rattle.journal.specs.Altered.{change_stores}
use Rattle.journal.specs.Cut.{Cut, Whole, Ready, Becomes}
use Rattle.journal.proofs.ValidLaws.{equal-eq, equal-yes, wiped-fails}
use Rattle.journal.specs.CutLaws.{cut_keeps}
use Rattle.journal.proofs.RecoverLaws.{recover-ready, recover-store, mend, whole-stores}
use Rattle.journal.proofs.BecomesLaws.{Leaves, leaves}
use Rattle.cuts.specs.Journalled.{run_disk}
use Rattle.cuts.specs.Events.{OneChange, recovered, landed, steps_done, Goes, ran, waited, cut, cut_step, recovers}
use Rattle.cuts.specs.Events.{cut_recovery, wipes, cut_wipe, Happens, over, and}
use Rattle.cuts.proofs.TestedLaws.{waits-leave}
use Rattle.cuts.specs.BecomesLaws.{becomes-call, becomes-step}
use Rattle.cuts.proofs.JournalledLaws.{Same, journalled-same}
use Rattle.cuts.specs.BudgetLaws.{works-more, fits-fewer}

-- the store after some calls
abbrev pub after_calls : List Call → List ℕ → List ℕ
after_calls [] s = s
after_calls (c ∷ cs) s = after_calls cs (run_store c s).state

after-append : (cs ds : List Call) (s : List ℕ) → after_calls (cs ++ ds) s ≡ after_calls ds (after_calls cs s)
after-append [] ds s = refl
after-append (c ∷ cs) ds s = after-append cs ds (run_store c s).state

-- the last moment's state is it
pub last-state : (cs : List Call) (t : Moment on_store)
    → (last_of on_store t (history on_store cs t)).state ≡ after_calls cs t.state
last-state [] t = refl
last-state (c ∷ cs) t =
    ap (λ (u : Moment on_store). u.state)
    (last-append on_store t (within on_store (accepted (run_store c t.state).reply) (effect c) t) (after on_store c t)
    (history on_store cs (after on_store c t)))
    ∙ last-state cs (after on_store c t)
    ∙ ap (after_calls cs) (after-state on_store c t)

-- sound, and as long as s, if the store before was
pub after-sound : (s : List ℕ) (cs : List Call) → Each CallFits cs → (t : List ℕ) → StaysSound s t
    → StaysSound s (after_calls cs t)
after-sound s [] fits t h = h
after-sound s (c ∷ cs) fits t h =
    after-sound s cs fits.1 (run_store c t).state (keeps-call s c fits.0 t h)

-- The disk d is s once recovered, the bytes of an index.
pub record Follows (d : Disk) (s : List ℕ) : Type 0 where
  pub index : Index
  pub encodes : Encodes s index
  pub recovers : recovered d ≡ s
  pub size : ℕ
  pub whole : Whole size d

-- with the head wiped the store is s as it lies
pub follows-lies : {d : Disk} {s : List ℕ} → Ready d → Follows d s → d.store ≡ s
follows-lies {d} r f = sym (recover-store d r.clean) ∙ f.recovers

pub follows-ready : {d : Disk} {s : List ℕ} {x : Index} → Ready d → Encodes s x → d.store ≡ s → Follows d s
follows-ready {d} {s} {x} r e h =
    record {
      index = x;
      encodes = e;
      recovers = recover-store d r.clean ∙ h;
      size = x.size;
      whole = record { store = ap length (h ∙ e.1) ∙ (encoding-is-sound x e.0).size; journal = r.sixteen };
    }

pub follows-encodes : {d : Disk} {s : List ℕ} → Ready d → (f : Follows d s) → Encodes d.store f.index
follows-encodes r f = (f.encodes.0, follows-lies r f ∙ f.encodes.1)

-- ---- a call that ran whole

pub follows_same : {d : Disk} {s : List ℕ} → Ready d → Follows d s → (c : Call) → CallFits c
    → Same (run_disk c d) (run_store c d.store)
follows_same r f c fits = journalled-same r (follows-encodes r f) c fits

call-follows : {d : Disk} {s : List ℕ} → Ready d → Follows d s → (c : Call) → CallFits c
    → Follows (run_disk c d).state (run_store c s).state
call-follows {s = s} r f c fits =
    let g = follows_same r f c fits in
    follows-ready g.ready (simulates.state c fits s f.index f.encodes)
    (g.store ∙ ap (λ (u : List ℕ). (run_store c u).state) (follows-lies r f))

-- ---- a change that was cut

-- the store that counts: the one after the change if that is what recovery leaves, and else the one before
abbrev counted : (landed : Bool) → (s t : List ℕ) → List ℕ
counted true s t = t
counted false s t = s

cut-follows : {d e : Disk} {m n : ℕ} {t : List ℕ} {x y : Index} → Ready d → Encodes d.store x → Encodes t y
    → Becomes d m t → Cut d (change_stores d t) n e → Follows e (counted (landed t e) d.store t)
cut-follows {d} {e} {m} {n} {t} {x} {y} r p q c k = go (landed t e) refl (leaves r c k)
  where
    go : (b : Bool) → landed t e ≡ b → Leaves d m t n e → Follows e (counted b d.store t)
    go true h l = record { index = y; encodes = q; recovers = equal-eq (recovered e) t h; size = m; whole = l.whole }
    go false h l =
        record {
          index = x;
          encodes = p;
          recovers = ⊎_elim (λ g. g) (λ g. let z = equal-yes (recovered e) t g in never (cc)) l.either;
          size = m;
          whole = l.whole;
        }

cut_call-follows : {d e : Disk} {n : ℕ} {s : List ℕ} → Ready d → Follows d s → (c : Call) → CallFits c → OneChange c
    → Cut d (change_stores d (run_store c d.store).state) n e
    → Follows e (after_calls (cond (landed (run_store c d.store).state e) (c ∷ []) []) s)
cut_call-follows {d} {e} {s = s} r f c fits o k =
    go (landed t e)
    (cut-follows r p (simulates.state c fits d.store f.index p) (becomes-call p c fits o) k)
  where
    t : List ℕ
    t = (run_store c d.store).state

    p : Encodes d.store f.index
    p = follows-encodes r f

    go : (b : Bool) → Follows e (counted b d.store t) → Follows e (after_calls (cond b (c ∷ []) []) s)
    go true g = subst (λ (u : List ℕ). Follows e (run_store c u).state) (follows-lies r f) g
    go false g = subst (Follows e) (follows-lies r f) g

-- in the step after i whole ones
cut_step-follows : {d e : Disk} {n : ℕ} {s : List ℕ} → Ready d → Follows d s → (k : Kind) (i : ℕ) (t : List ℕ)
    → CallFits (stepping k (suc i)) → accepted (run_disk (stepping k (suc i)) d).reply ≡ true
    → step_store k (run_disk (stepping k i) d).state.store ≡ next t
    → Cut (run_disk (stepping k i) d).state (change_stores (run_disk (stepping k i) d).state t) n e
    → Follows e (run_store (stepping k (steps_done (landed t e) i)) s).state
cut_step-follows {d} {e} {s = s} r f k i t fits a h q =
    go (landed t e)
    (cut-follows ready p (alike_next Encodes _ _ t (step-alike k g.store w.index p) h).related
    (becomes-step p k h) q)
  where
    g : Disk
    g = (run_disk (stepping k i) d).state

    u : List ℕ
    u = (run_store (stepping k i) s).state

    w : Follows (run_disk (stepping k i) d).state (run_store (stepping k i) s).state
    w = call-follows r f (stepping k i) (fits-fewer k i fits)

    ready : Ready (run_disk (stepping k i) d).state
    ready = (follows_same r f (stepping k i) (fits-fewer k i fits)).ready

    p : Encodes g.store w.index
    p = follows-encodes ready w

    -- the call of one step more is accepted, and so ends with t
    ok : accepted (run_store (stepping k (suc i)) s).reply ≡ true
    ok =
        sym (ap accepted ((follows_same r f (stepping k (suc i)) fits).reply
        ∙ ap (λ (v : List ℕ). (run_store (stepping k (suc i)) v).reply) (follows-lies r f)))
        ∙ a

    more : (run_store (stepping k (suc i)) s).state ≡ t
    more = works-more k i s t ok (ap (step_store k) (sym (follows-lies ready w)) ∙ h)

    go : (b : Bool) → Follows e (counted b g.store t)
        → Follows e (run_store (stepping k (steps_done b i)) s).state
    go true z = subst (Follows e) (sym more) z
    go false z = subst (Follows e) (follows-lies ready w) z

-- ---- recovery, and the wipe of a wiped head, which is a recovery of it

recover-follows : {d : Disk} {s : List ℕ} → Follows d s → Follows (recover d) s
recover-follows {d} f = follows-ready (recover-ready d f.whole.journal) f.encodes f.recovers

mend-follows : {d e : Disk} {n : ℕ} {s : List ℕ} → Follows d s → Cut d (recovery_stores d) n e → Follows e s
mend-follows {d} f c =
    record {
      index = f.index;
      encodes = f.encodes;
      recovers = ap (λ (g : Disk). g.store) (mend f.whole c) ∙ f.recovers;
      size = f.size;
      whole = cut_keeps (Whole f.size) (recovery_stores d) (whole-stores f.whole) f.whole c;
    }

wiping : (d : Disk) → Ready d → recovery_stores d ≡ wipe ∷ []
unfolding recovery_stores
wiping d r = ap (λ (b : Bool). copy_stores b d ++ (wipe ∷ [])) (wiped-fails d r.clean)

-- ---- whatever happens

goes-follows : {d e : Disk} {cs : List Call} {s : List ℕ} → Goes d cs e → Follows d s → Follows e (after_calls cs s)
unfolding recover
goes-follows (ran c fits r) f = call-follows r f c fits
goes-follows {d} {s = s} (waited c h k) f = subst (λ (g : Disk). Follows g s) (sym (waits-leave c d h k)) f
goes-follows (cut c fits o r k) f = cut_call-follows r f c fits o k
goes-follows (cut_step k i t fits r a h q) f = cut_step-follows r f k i t fits a h q
goes-follows recovers f = recover-follows f
goes-follows (cut_recovery c) f = mend-follows f c
goes-follows {d} {s = s} (wipes r) f =
    subst (λ (ps : List BlockStore). Follows (run ps d) s) (wiping d r) (recover-follows f)
goes-follows {d} {e} (cut_wipe {n = n} r c) f =
    mend-follows f (subst (λ (ps : List BlockStore). Cut d ps n e) (sym (wiping d r)) c)

pub happens-follows : {d e : Disk} {cs : List Call} {s : List ℕ} → Happens d cs e → Follows d s
    → Follows e (after_calls cs s)
happens-follows over f = f
happens-follows {s = s} (and {f = e} {cs = cs} {ds = ds} g h) f =
    subst (Follows e) (sym (after-append cs ds s)) (happens-follows h (goes-follows g f))

-- ---- the calls that it counts as fit

goes-fits : {d e : Disk} {cs : List Call} → Goes d cs e → Each CallFits cs
goes-fits (ran c fits r) = (fits, tt)
goes-fits (waited c h k) = tt
goes-fits {e = e} (cut {d = d} c fits o r k) = go (landed (run_store c d.store).state e)
  where
    go : (b : Bool) → Each CallFits (cond b (c ∷ []) [])
    go true = (fits, tt)
    go false = tt
goes-fits {e = e} (cut_step k i t fits r a h q) = (go (landed t e), tt)
  where
    go : (b : Bool) → CallFits (stepping k (steps_done b i))
    go true = fits
    go false = fits-fewer k i fits
goes-fits recovers = tt
goes-fits (cut_recovery c) = tt
goes-fits (wipes r) = tt
goes-fits (cut_wipe r c) = tt

pub happens-fits : {d e : Disk} {cs : List Call} → Happens d cs e → Each CallFits cs
happens-fits over = tt
happens-fits (and {cs = cs} {ds = ds} g h) = each_append CallFits cs ds (goes-fits g) (happens-fits h)
