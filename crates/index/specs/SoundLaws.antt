-- A planned change written to a sound store makes what the outcome says; steps one after the other make work's, and
-- squeeze's.
use Rattle.std.specs.Prelude.{◌≡◌, List, ℕ, suc, ◌+◌, ◌-◌, ◌≤◌, ◌<◌, length, Result as Outcome, Ok, Err, IfOk}
use Rattle.std.proofs.Math.Path.{refl, ap}
use Rattle.std.proofs.Common.{sym, ◌∙◌, subst, zero-add, arith}
use Rattle.lists.specs.Block.{block}
use Rattle.store.specs.declared.Change.{Change}
use Rattle.store.specs.Change.{Fits}
use Rattle.store.specs.Finish.{finished}
use Rattle.store.proofs.FinishLaws.{finished-none}
use Rattle.model.specs.Answers.{Answer, work_of}
use Rattle.model.specs.declared.Stop.{Stop}
use Rattle.model.specs.Index.{Index}
use Rattle.model.specs.Steps.{Step, next, stopped, Worked, iterate, step}
use Rattle.model.specs.Machine.{Kind, step_index}
use Rattle.model.specs.Calls.{Result}
use Rattle.model.specs.WellFormed.{WF}
use Rattle.model.proofs.BoundLaws.{laid-size}
use Rattle.model.proofs.StepLaws.{step-wf}
use Rattle.model.proofs.KindLaws.{kind-wf}
use Rattle.model.proofs.MachineLaws.{never}
use Rattle.image.specs.Layout.{encode}
use Rattle.image.specs.Decode.{decode}
use Rattle.image.proofs.EncodeDecodeLaws.{decode-encode}
use Rattle.outcomes.specs.Outcomes.{changed, step_on}
use Rattle.outcomes.proofs.OutcomeLaws.{step-read}
use Rattle.journal.specs.Journal.{Disk, disk}
use Rattle.journal.specs.Altered.{written}
use Rattle.journal.proofs.CrashTheorem.{idle}
use Rattle.cuts.specs.Journalled.{journalled, step_to, step_journalled, worked_by}
use Rattle.plan.specs.Plan.{Plans, Settles, accepted, declined, Advances, advanced, halted}
use Rattle.plan.specs.PlanLaws.{fits-none}
use Rattle.view.specs.ReadsLaws.{reads-laid, reads-size, reads_whole, encode-reads}
use Rattle.split.specs.declared.Position.{Position}
use Rattle.split.specs.Seek.{From, Leads}
use Rattle.index.specs.Sound.{Sound, Stepped, moved, stayed}
use Rattle.index.specs.Written.{Alters}

-- a sound store has a first block
pub sound-first : {s : List ℕ} → Sound s → 512 ≤ length s
sound-first {s} r = reads_whole r 0 (omega (arith, laid-size (decode s) (reads-laid r), reads-size r))

module _ {s : List ℕ} {c : Change} {images : List ℕ} where
  -- ---- what a plan alters

  plans-alters : {y : Index} → Plans s c images y → Alters s c images
  plans-alters p =
      record { fits = p.fits; differ = λ k l e. p.alters k l (e ∙ ap (λ (t : List ℕ). block t k) p.makes) }

  none-alters : c.count ≡ 0 → Alters s c images
  none-alters e = record { fits = fits-none s c e; differ = λ k l q. absurd (omega (arith, l.1)) }

  -- ---- a call

  pub settles-fits : {q : Result} {a : Answer} → Settles s c images q a → Fits s c.numbers c.count
  settles-fits (accepted p) = p.fits
  settles-fits (declined e) = fits-none s c e

  pub settles-changed : {q : Result} {a : Answer} → Settles s c images q a → (t : List ℕ) → t ≡ finished s c images
      → changed s q ≡ record { answer = a; store = t }
  settles-changed (accepted p) t e =
      ap (λ (u : List ℕ). record { answer = Ok tt; store = u }) (sym p.makes ∙ sym e)
  settles-changed (declined {r} n) t e =
      ap (λ (u : List ℕ). record { answer = Err r; store = u }) (sym (finished-none s c images n) ∙ sym e)

  pub settles-alters : {q : Result} {a : Answer} → Settles s c images q a → Alters s c images
  settles-alters (accepted p) = plans-alters p
  settles-alters (declined e) = none-alters e

  -- and written with a journal
  pub settles-journalled : {q : Result} {a : Answer} → Settles s c images q a → (j : List ℕ) (e : Disk)
      → written (disk s j) (finished s c images) ≡ e → journalled (disk s j) q ≡ record { answer = a; disk = e }
  settles-journalled (accepted p) j e f =
      ap (λ (u : Disk). record { answer = Ok tt; disk = u })
      (ap (written (disk s j)) (sym p.makes) ∙ f)
  settles-journalled (declined {r} n) j e f =
      ap (λ (u : Disk). record { answer = Err r; disk = u })
      (sym (idle (disk s j)) ∙ ap (written (disk s j)) (sym (finished-none s c images n)) ∙ f)

  -- ---- a step

  pub advances-alters : {X : Type 0} {q : Step Index} {a : Outcome X Stop} → Advances s c images q a → Alters s c images
  advances-alters (advanced p) = plans-alters p
  advances-alters (halted e) = none-alters e

  pub advances-stepped : {X : Type 0} (k : Kind) → Sound s → {q : Step Index} {a : Outcome X Stop} → Advances s c images q a
      → step_index k (decode s) ≡ q → (j : List ℕ) (e : Disk) → written (disk s j) (finished s c images) ≡ e
      → e.store ≡ finished s c images → Stepped k (disk s j) a e
  unfolding step_journalled
  advances-stepped k r (advanced {y} p) q j e f made =
      moved
      (ap (step_to (disk s j)) (step-read k s ∙ ap step_on q)
      ∙ ap next (ap (written (disk s j)) (sym p.makes) ∙ f))
      (subst Sound (sym (made ∙ p.makes)) (sound-encode y (kind-wf k (decode s) y r.wf q)))
    where
      sound-encode : (y : Index) → WF y → Sound (encode y)
      sound-encode y w = let q = encode-reads y w in record { wf = q.wf; bytes = q.bytes; meta = refl }
  advances-stepped k r (halted n) q j e f made =
      stayed (ap (step_to (disk s j)) (step-read k s ∙ ap step_on q))
      (sym f ∙ ap (written (disk s j)) (finished-none s c images n) ∙ idle (disk s j))

  -- what is so of the index that it makes is so of the store that it leaves
  pub advances-leaves : {X : Type 0} (k : Kind) → Sound s → {q : Step Index} {a : Outcome X Stop} → Advances s c images q a
      → step_index k (decode s) ≡ q → (t : List ℕ) → t ≡ finished s c images → (P : Index → X → Type 0)
      → IfOk a (λ p. (y : Index) → step_index k (decode s) ≡ next y → P y p) → IfOk a (P (decode t))
  advances-leaves k r (advanced {y} {x} p) e t f P g =
      subst (λ (z : Index). P z x)
      (sym (ap decode (f ∙ p.makes) ∙ decode-encode y (kind-wf k (decode s) y r.wf e))) (g y e)
  advances-leaves k r (halted z) e t f P g = tt

  -- the position that a step gives is one to search from in the store that it leaves
  pub advances-from : {X : Type 0} → Sound s → {q : Step Index} {a : Outcome X Stop} → Advances s c images q a
      → step (decode s) ≡ q → (t : List ℕ) → t ≡ finished s c images → (k : Position) → Leads (decode s) k
      → {x : X} → a ≡ Ok x → From (decode t) k
  advances-from r (advanced {y} p) e t f k g n =
      subst (λ (z : Index). From z k)
      (sym (ap decode (f ∙ p.makes) ∙ decode-encode y (step-wf (decode s) y r.wf e))) (g y e)
  advances-from r (halted z) e t f k g n = never (cc)

-- ---- steps one after the other

-- what the steps give, with n steps made before
abbrev pub after : ℕ → Worked Disk → Worked Disk
after n w = record { steps = n + w.steps; stop = w.stop; state = w.state }

-- what is left to do, after n steps of a budget that left store and journal s
abbrev pub left : Kind → (budget n : ℕ) → Disk → Worked Disk
left k budget n s = after n (iterate (step_journalled k) (budget - n) s)

-- a step, and what is left of the budget after it
abbrev over : Kind → (rest : ℕ) → Disk → Step Disk → Worked Disk
over k rest s q =
    elim q [
      | next t ↦ (let w = iterate (step_journalled k) rest t in
          record { steps = suc w.steps; stop = w.stop; state = w.state })
      | stopped r ↦ record { steps = 0; stop = r; state = s }
    ]

module _ (k : Kind) (budget n : ℕ) where
  more : n < budget → budget - n ≡ suc (budget - (n + 1))
  more h = omega arith

  pub left-next : (s t : Disk) → n < budget → step_journalled k s ≡ next t → left k budget n s ≡ left k budget (n + 1) t
  left-next s t h e =
      ap (λ (i : ℕ). after n (iterate (step_journalled k) i s)) (more h)
      ∙ ap (λ (q : Step Disk). after n (over k (budget - (n + 1)) s q)) e
      ∙ (λ i. record { steps = one i; stop = w.stop; state = w.state })
    where
      w : Worked Disk
      w = iterate (step_journalled k) (budget - (n + 1)) t

      one : n + suc w.steps ≡ n + 1 + w.steps
      one = omega arith

  pub left-stop : (s : Disk) (r : Stop) → n < budget → step_journalled k s ≡ stopped r
      → worked_by (left k budget n s) ≡ record { answer = Ok (work_of n r); disk = s }
  left-stop s r h e =
      ap (λ (i : ℕ). worked_by (after n (iterate (step_journalled k) i s))) (more h)
      ∙ ap (λ (q : Step Disk). worked_by (after n (over k (budget - (n + 1)) s q))) e
      ∙ (λ i. record { answer = Ok (work_of (none i) r); disk = s })
    where
      none : n + 0 ≡ n
      none = omega arith

  pub left-spent : (s : Disk) → budget ≤ n
      → worked_by (left k budget n s) ≡ record { answer = Ok (work_of n Stop.Spent); disk = s }
  left-spent s h =
      let z : budget - n ≡ 0 = omega arith in
      let none : n + 0 ≡ n = omega arith in
      ap (λ (i : ℕ). worked_by (after n (iterate (step_journalled k) i s))) z
      ∙ (λ i. record { answer = Ok (work_of (none i) Stop.Spent); disk = s })

-- ---- the loop of work, and of squeeze

-- after n steps: the store is sound, the journal long enough, and what is left of them answers what was asked
pub record Working (k : Kind) (budget : ℕ) (s₀ s : Disk) (n : ℕ) : Type 0 where
  pub sound : Sound s.store
  pub within : n ≤ budget
  pub rest : iterate (step_journalled k) budget s₀ ≡ left k budget n s
  pub size : length s.store ≡ length s₀.store
  pub sixteen : length s.journal ≡ 8192

module _ (k : Kind) {budget : ℕ} {s₀ s : Disk} {n : ℕ} (w : Working k budget s₀ s n) (h : n < budget) where
  pub working-next : {X : Type 0} {x : X} {t : Disk} → Stepped k s (Ok x) t
      → length t.store ≡ length s.store → length t.journal ≡ 8192 → Working k budget s₀ t (n + 1)
  working-next (moved e q) m l =
      record {
        sound = q;
        within = omega arith;
        rest = w.rest ∙ left-next k budget n s _ h e;
        size = m ∙ w.size;
        sixteen = l;
      }

  pub working-stop : {X : Type 0} {r : Stop} {t : Disk} → Stepped k s {X = X} (Err r) t
      → worked_by (iterate (step_journalled k) budget s₀) ≡ record { answer = Ok (work_of n r); disk = t }
  working-stop (stayed {r = r} e q) =
      ap worked_by w.rest ∙ left-stop k budget n s r h e ∙ (λ i. record { answer = Ok (work_of n r); disk = sym q i })

pub working-spent : (k : Kind) {budget : ℕ} {s₀ s : Disk} {n : ℕ} → Working k budget s₀ s n → budget ≤ n
    → worked_by (iterate (step_journalled k) budget s₀) ≡ record { answer = Ok (work_of n Stop.Spent); disk = s }
working-spent k {budget} {s = s} {n} w h = ap worked_by w.rest ∙ left-spent k budget n s h

pub working-none : (k : Kind) (budget : ℕ) (s : Disk) → Sound s.store → length s.journal ≡ 8192
    → Working k budget s s 0
working-none k budget s q l =
    record {
      sound = q;
      within = omega arith;
      rest = ap (λ (i : ℕ). iterate (step_journalled k) i s) all ∙ plus (iterate (step_journalled k) (budget - 0) s);
      size = refl;
      sixteen = l;
    }
  where
    all : budget ≡ budget - 0
    all = omega arith

    plus : (w : Worked Disk) → w ≡ after 0 w
    plus w = let z = zero-add w.steps in λ i. record { steps = sym z i; stop = w.stop; state = w.state }
