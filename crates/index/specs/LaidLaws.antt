-- A planned change laid into a lent buffer answers what the first half of a call does.
use Rattle.model.specs.declared.Listing.{Listing}
use Rattle.model.specs.declared.LentError.{LentError}
use Rattle.std.specs.Prelude.{◌≡◌, Result as Outcome, Ok, Err, List, [], ℕ, length}
use Rattle.std.proofs.Common.{sym, ap, ◌∙◌}
use Rattle.store.specs.declared.Change.{Change}
use Rattle.store.specs.Store.{number_at}
use Rattle.store.specs.Finish.{finished}
use Rattle.model.specs.declared.Refusal.{Refusal}
use Rattle.model.specs.declared.Stop.{Stop}
use Rattle.model.specs.Answers.{Answer, PlanAnswer}
use Rattle.model.specs.Index.{Index}
use Rattle.model.specs.Steps.{Step}
use Rattle.model.specs.Machine.{Kind, step_index}
use Rattle.model.specs.Calls.{Result}
use Rattle.model.proofs.MachineLaws.{never}
use Rattle.image.specs.Layout.{encode}
use Rattle.image.specs.Decode.{decode}
use Rattle.outcomes.specs.Outcomes.{step_on, step_store}
use Rattle.outcomes.proofs.OutcomeLaws.{step-read}
use Rattle.journal.specs.Journal.{disk}
use Rattle.journal.specs.Altered.{stores_to}
use Rattle.journal.specs.Planned.{plan_to, plan_over}
use Rattle.cuts.specs.Halves.{answering, planned_to, planned_as, planned_step}
use Rattle.plan.specs.Plan.{Plans, Settles, accepted, declined, Advances, advanced, halted}
use Rattle.index.specs.WrittenLaws.{none-lays}

-- ---- a change laid into a buffer, with n block stores, leaves the bytes `after` in it

module _ (s : List ℕ) (c : Change) (images buffer after : List ℕ) (n : ℕ)
    (many : n ≡ length (stores_to (number_at s) s (finished s c images)))
    (laid : after ≡ plan_over (plan_to (number_at s) s (finished s c images)) buffer) where
  made : {y : Index} → Plans s c images y
      → planned_to (disk s []) buffer (encode y) ≡ record { answer = Ok (Listing.Stores n); plan = after }
  made p =
      ap (planned_to (disk s []) buffer) (sym p.makes)
      ∙ (λ i. record { answer = Ok (Listing.Stores (sym many i)); plan = sym laid i })

  kept : c.count ≡ 0 → (a : PlanAnswer) → answering buffer a ≡ record { answer = a; plan = after }
  kept z a = ap (λ (b : List ℕ). answering b a) (none-lays s c images z buffer ∙ sym laid)

  -- a call

  pub settles-laid : {q : Result} {a : Answer} → Settles s c images q a → a ≡ Ok tt
      → planned_as (disk s []) buffer q ≡ record { answer = Ok (Listing.Stores n); plan = after }
  settles-laid (accepted p) e = made p
  settles-laid (declined z) e = never (cc)

  pub settles-declined : {q : Result} {a : Answer} → Settles s c images q a → (r : Refusal) → a ≡ Err r
      → planned_as (disk s []) buffer q ≡ record { answer = Err (LentError.Refused r); plan = after }
  settles-declined (accepted p) r e = never (cc)
  settles-declined (declined {r = u} z) r e =
      let same : u ≡ r = cc in
      kept z (Err (LentError.Refused u)) ∙ (λ i. record { answer = Err (LentError.Refused (same i)); plan = after })

  -- a step

  module _ (k : Kind) {q : Step Index} (is : step_index k (decode s) ≡ q) where
    step_is : planned_step (disk s []) buffer (step_store k s) ≡ planned_step (disk s []) buffer (step_on q)
    step_is = ap (planned_step (disk s []) buffer) (step-read k s ∙ ap step_on is)

    pub advances-laid : {X : Type 0} {a : Outcome X Stop} → Advances s c images q a → {x : X} → a ≡ Ok x
        → planned_step (disk s []) buffer (step_store k s) ≡ record { answer = Ok (Listing.Stores n); plan = after }
    advances-laid h e = step_is ∙ go h e
      where
        go : {X : Type 0} {q : Step Index} {a : Outcome X Stop} → Advances s c images q a → {x : X} → a ≡ Ok x
            → planned_step (disk s []) buffer (step_on q) ≡ record { answer = Ok (Listing.Stores n); plan = after }
        go (advanced p) e = made p
        go (halted z) e = never (cc)

    pub advances-stopped : {X : Type 0} {a : Outcome X Stop} → Advances s c images q a → (r : Stop) → a ≡ Err r
        → planned_step (disk s []) buffer (step_store k s) ≡ record { answer = Ok (Listing.Stopped r); plan = after }
    advances-stopped h r e = step_is ∙ go h e
      where
        go : {X : Type 0} {q : Step Index} {a : Outcome X Stop} → Advances s c images q a → a ≡ Err r
            → planned_step (disk s []) buffer (step_on q) ≡ record { answer = Ok (Listing.Stopped r); plan = after }
        go (advanced p) e = never (cc)
        go (halted {r = u} z) e =
            let same : u ≡ r = cc in
            kept z (Ok (Listing.Stopped u)) ∙ (λ i. record { answer = Ok (Listing.Stopped (same i)); plan = after })
