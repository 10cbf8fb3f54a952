-- A call of the index gives its answer and what it leaves at once; here its word and what it leaves, one by one.
use mathlib.Core.Path.{◌≡◌, sym, ap, ◌∙◌}
use mathlib.Core.List.{List}
use Prim.Native.Nat.{ℕ}
use Rattle.model.specs.Answers.{Answer, WorkAnswer, PlaceAnswer, PlanAnswer}
use Rattle.journal.specs.Journal.{Disk}
use Rattle.cuts.specs.Journalled.{Journalled, WorkJournalled, Wiped}
use Rattle.cuts.specs.Halves.{Planned, Stored}
use Rattle.amiqsovik.specs.Words.{answer_word, work_word, place_word, plan_word}

pub told-change : {c : Journalled} {a : Answer} {d : Disk} {w : ℕ} → c ≡ record { answer = a; disk = d }
    → w ≡ answer_word a → (w ≡ answer_word c.answer) × (c.disk ≡ d)
told-change f e =
    (e ∙ sym (ap (λ (x : Journalled). answer_word x.answer) f), ap (λ (x : Journalled). x.disk) f)

pub told-work : {c : WorkJournalled} {a : WorkAnswer} {d : Disk} {w : ℕ} → c ≡ record { answer = a; disk = d }
    → w ≡ work_word a → (w ≡ work_word c.answer) × (c.disk ≡ d)
told-work f e =
    (e ∙ sym (ap (λ (x : WorkJournalled). work_word x.answer) f), ap (λ (x : WorkJournalled). x.disk) f)

pub told-wipe : {c : Wiped} {a : Answer} {j : List ℕ} {w : ℕ} → c ≡ record { answer = a; journal = j }
    → w ≡ answer_word a → (w ≡ answer_word c.answer) × (j ≡ c.journal)
told-wipe f e = (e ∙ sym (ap (λ (x : Wiped). answer_word x.answer) f), sym (ap (λ (x : Wiped). x.journal) f))

pub told-plan : {c : Planned} {a : PlanAnswer} {b : List ℕ} {w : ℕ} → c ≡ record { answer = a; plan = b }
    → w ≡ plan_word a → (w ≡ plan_word c.answer) × (b ≡ c.plan)
told-plan f e = (e ∙ sym (ap (λ (x : Planned). plan_word x.answer) f), sym (ap (λ (x : Planned). x.plan) f))

pub told-store : {c : Stored} {a : PlaceAnswer} {d : Disk} {w : ℕ} → c ≡ record { answer = a; disk = d }
    → w ≡ place_word a → (w ≡ place_word c.answer) × (c.disk ≡ d)
told-store f e = (e ∙ sym (ap (λ (x : Stored). place_word x.answer) f), ap (λ (x : Stored). x.disk) f)
