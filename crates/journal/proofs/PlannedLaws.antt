-- The plan of the change from s to t, at the front of a buffer: its block stores are those of that change.
use Rattle.std.specs.Prelude.{◌≡◌, refl, ℕ, zero, suc, ◌+◌, ◌*◌, ◌≤◌, ◌<◌, length, get_or, drop}
use Rattle.std.proofs.Common.{sym, ◌∙◌, arith}
use Rattle.std.proofs.Math.Path.{ap}
use mathlib.Core.List.{List, ◌++◌, append_assoc}
use Rattle.std.proofs.Math.ListN.{length-append, length-drop}
use Rattle.lists.specs.Block.{block}
use Rattle.journal.specs.Journal.{head, ending, wiped}
use Rattle.journal.specs.Altered.{altered, images_of, stores_to}
use Rattle.journal.specs.Planned.{plan_in, plan_to, plan_over, plan_count, plan_name, plan_stores}
use Rattle.journal.specs.PartLaws.{block-front}
use Rattle.journal.specs.HeadLaws.{length-head, length-ending, length-wiped}
use Rattle.journal.proofs.AlteredLaws.{altered-below, length-images_of, stores_to-some}
use Rattle.journal.proofs.PlanLaws.{count-plan, name-plan, plan_stores-plan, stores-cong}

pub plan_to-some : (number : ℕ) (s t : List ℕ) → 1 ≤ length (altered s t)
    → plan_to number s t
    ≡ head number (altered s t) (length (altered s t))
    ++ (ending number (altered s t) (length (altered s t)) ++ (wiped ++ images_of s t))
unfolding plan_to
plan_to-some number s t h = go (length (altered s t)) h
  where
    go : (n : ℕ) → 1 ≤ n
        → plan_in n number s t
        ≡ head number (altered s t) n ++ (ending number (altered s t) n ++ (wiped ++ images_of s t))
    go zero h = absurd (omega arith)
    go (suc n) h = refl

module _ (number : ℕ) (s t : List ℕ) (m : ℕ) (ls : length s ≡ 512 * m) (lt : length t ≡ 512 * m)
    (small : m ≤ 4294967296) (some : 1 ≤ length (altered s t)) (few : length (altered s t) ≤ 8)
    (buffer : List ℕ) (size : 5632 ≤ length buffer) where
  abbrev ks : List ℕ
  ks = altered s t

  abbrev n : ℕ
  n = length (altered s t)

  abbrev plan : List ℕ
  plan = plan_over (plan_to number s t) buffer

  -- what the buffer has after the plan
  abbrev rest : List ℕ
  rest = drop (length (plan_to number s t)) buffer

  parts : plan ≡ head number ks n ++ (ending number ks n ++ (wiped ++ (images_of s t ++ rest)))
  unfolding plan_over
  parts =
      ap (λ (x : List ℕ). x ++ rest) (plan_to-some number s t some)
      ∙ append_assoc (head number ks n) (ending number ks n ++ (wiped ++ images_of s t)) rest
      ∙ ap (λ (x : List ℕ). head number ks n ++ x)
      (append_assoc (ending number ks n) (wiped ++ images_of s t) rest
      ∙ ap (λ (x : List ℕ). ending number ks n ++ x) (append_assoc wiped (images_of s t) rest))

  named : (j : ℕ) → j < n → get_or ks j 0 < 4294967296
  named j h = omega (arith, altered-below s t m ls lt j h)

  pub length-plan_to : length (plan_to number s t) ≡ 512 * (3 + n)
  length-plan_to =
      ap length (plan_to-some number s t some)
      ∙ length-append (head number ks n) (ending number ks n ++ (wiped ++ images_of s t))
      ∙ omega (
        arith,
        length-head number ks n,
        length-append (ending number ks n) (wiped ++ images_of s t),
        length-ending number ks n,
        length-append wiped (images_of s t),
        length-wiped,
        length-images_of s t m ls lt,
      )

  pub length-plan_over : length plan ≡ length buffer
  unfolding plan_over
  length-plan_over =
      length-append (plan_to number s t) rest
      ∙ omega (arith, length-plan_to, length-drop (length (plan_to number s t)) buffer)

  pub count-plan_over : plan_count plan ≡ n
  count-plan_over = count-plan number ks (images_of s t ++ rest) n few (omega arith) named plan parts

  pub name-plan_over : (i : ℕ) → i < n → plan_name plan i ≡ get_or ks i 0
  name-plan_over = name-plan number ks (images_of s t ++ rest) n few (omega arith) named plan parts

  front : (i : ℕ) → i < n → block (images_of s t ++ rest) i ≡ block (images_of s t) i
  front i h = block-front (images_of s t) rest i (omega (arith, length-images_of s t m ls lt))

  pub plan_stores-to : plan_stores plan ≡ stores_to number s t
  plan_stores-to =
      plan_stores-plan number ks (images_of s t ++ rest) n few (omega arith) named plan parts
      ∙ stores-cong number ks (images_of s t ++ rest) (images_of s t) n front
      ∙ sym (stores_to-some number s t some)
