-- On the bytes of a well-formed index each call is the model's: its reply, and the bytes of its index.
use Rattle.std.specs.Prelude.{◌≡◌, Bool, not, ◌&&◌, List, ℕ, ◌%◌, eqb, length, Ok, Err}
use Rattle.std.proofs.Math.Path.{refl, sym, ap, subst}
use Rattle.std.proofs.Common.{◌∙◌}
use Rattle.std.proofs.Math.Bool.{true, false}
use Rattle.std.proofs.Math.Option.{Option, none, some}
use Rattle.lists.specs.ListsLaws.{and_right}
use Rattle.lists.specs.Block.{blocks}
use Rattle.page.specs.declared.Pair.{Pair}
use Rattle.model.specs.declared.Order.{Order}
use Rattle.model.specs.declared.Refusal.{Refusal}
use Rattle.model.specs.Answers.{StandingAnswer, work_of}
use Rattle.model.specs.Index.{Index}
use Rattle.model.specs.Held.{held}
use Rattle.model.specs.Steps.{Step, next, stopped, Worked, step, iterate}
use Rattle.model.specs.Squeeze.{squeeze_step, squeeze, bucket_test}
use Rattle.model.specs.Calls.{Result, done, refused, size_ok, format_ok, in_use, overwrites, pair_ok, budget_ok, format}
use Rattle.model.specs.Calls.{format_in, formatted, insert_in, insert, remove_in, remove, Looked, lookup, standing, work}
use Rattle.model.specs.Machine.{Call, formatting, inserting, removing, looking, working, squeezing, asking, Kind}
use Rattle.model.specs.Machine.{of_splits, of_squeeze, plain, looked, worked, stands, Ran, settled, worked_in}
use Rattle.model.specs.Machine.{squeezed_in, run_index, step_index}
use Rattle.model.specs.WellFormed.{WF}
use Rattle.model.proofs.KindLaws.{kind-wf}
use Rattle.model.proofs.SimulationLaws.{Alike, iterate-alike}
use Rattle.image.specs.Layout.{encode}
use Rattle.image.specs.Decode.{decode}
use Rattle.image.specs.Rules.{sound}
use Rattle.outcomes.specs.Outcomes.{Tested, passed, failed, tested, Changed, in_use_on, store_in_use, changed}
use Rattle.image.specs.Rules.{length_ok}
use Rattle.outcomes.specs.Outcomes.{format_replacing, format_outcome, insert_on, insert_outcome, remove_on}
use Rattle.outcomes.specs.Outcomes.{remove_outcome, lookup_on}
use Rattle.outcomes.specs.Outcomes.{lookup_outcome, standing_on, standing_outcome, step_on, step_outcome, WorkDone}
use Rattle.outcomes.specs.Outcomes.{work_on, work_outcome, squeeze_step_outcome, unless_refused, bucket_tested}
use Rattle.outcomes.specs.Outcomes.{squeeze_outcome, run_store, step_store}
use Rattle.image.specs.SoundStore.{Encodes}
use Rattle.image.proofs.BridgeTheorem.{encoding-is-sound}
use Rattle.outcomes.proofs.OutcomeLaws.{tested-number, tested-verdict, step-read, bucket-passes}

-- a store is read as the index whose bytes it is
pub encodes-read : (s : List ℕ) (x : Index) → Encodes s x → decode s ≡ x
encodes-read s x r = ap decode r.1 ∙ (encoding-is-sound x r.0).read

module _ (x : Index) (w : WF x) where
  pub tested-encode : tested true (encode x) ≡ passed x
  tested-encode = tested-verdict (encode x) (encoding-is-sound x w).legal (sound x) (encoding-is-sound x w).judged

  pub tested-wrong : tested false (encode x) ≡ failed Refusal.Number
  tested-wrong = tested-number (encode x) (encoding-is-sound x w).legal

  -- ---- each call

  size_ok_lem : size_ok x.size ≡ true
  unfolding length_ok
  size_ok_lem =
      subst (λ (n : ℕ). size_ok n ≡ true) (encoding-is-sound x w).number
      (and_right (eqb (length (encode x) % 512) 0) (size_ok (blocks (encode x))) (encoding-is-sound x w).legal)

  -- a store is in use just if its index is
  pub in_use-encode : store_in_use (encode x) ≡ in_use x
  unfolding store_in_use
  in_use-encode = ap in_use_on tested-encode

  pub format-encode : (o : Order) → format_outcome (encode x) o ≡ changed (encode x) (formatted x o)
  unfolding format_replacing format_outcome formatted
  format-encode o =
      let g = encoding-is-sound x w in
      let legal = g.legal ∙ sym size_ok_lem in
      λ i. changed (encode x)
      (format_in (legal i) (format_ok o) (not (overwrites o) && in_use-encode i) (format (g.number i) o))

  pub insert-encode : (p : Pair) → insert_outcome (encode x) p ≡ changed (encode x) (insert x p)
  unfolding insert_outcome insert
  insert-encode p = go (pair_ok p) refl
    where
      go : (b : Bool) → pair_ok p ≡ b → insert_on (tested b (encode x)) (encode x) p ≡ changed (encode x) (insert x p)
      go true e = ap (λ (t : Tested). insert_on t (encode x) p) tested-encode
      go false e =
          ap (λ (t : Tested). insert_on t (encode x) p) tested-wrong
          ∙ ap (λ (b : Bool). changed (encode x) (insert_in b (held x p) x p)) (sym e)

  pub remove-encode : (p : Pair) → remove_outcome (encode x) p ≡ changed (encode x) (remove x p)
  unfolding remove_outcome remove
  remove-encode p = go (pair_ok p) refl
    where
      go : (b : Bool) → pair_ok p ≡ b → remove_on (tested b (encode x)) (encode x) p ≡ changed (encode x) (remove x p)
      go true e = ap (λ (t : Tested). remove_on t (encode x) p) tested-encode
      go false e =
          ap (λ (t : Tested). remove_on t (encode x) p) tested-wrong
          ∙ ap (λ (b : Bool). changed (encode x) (remove_in b (held x p) x p)) (sym e)

  pub lookup-encode : (h : ℕ) (out : List ℕ) → lookup_outcome (encode x) h out ≡ lookup x h out
  unfolding lookup_outcome
  lookup-encode h out = ap (λ (t : Tested). lookup_on t h out) tested-encode

  pub standing-encode : standing_outcome (encode x) ≡ Ok (standing x)
  unfolding standing_outcome
  standing-encode = ap standing_on tested-encode

  pub step-encode : (k : Kind) → step_store k (encode x) ≡ step_on (step_index k x)
  step-encode k =
      step-read k (encode x) ∙ ap (λ (y : Index). step_on (step_index k y)) (encoding-is-sound x w).read

-- ---- work and squeeze, by iteration

pub step-alike : (k : Kind) (s : List ℕ) (x : Index) → Encodes s x → Alike Encodes (step_store k s) (step_index k x)
step-alike k s x r =
    subst (λ (a : Step (List ℕ)). Alike Encodes a (step_index k x))
    (sym (ap (step_store k) r.1 ∙ step-encode x r.0 k)) (go (step_index k x) refl)
  where
    go : (a : Step Index) → step_index k x ≡ a → Alike Encodes (step_on a) a
    go (next y) e = (kind-wf k x y r.0 e, refl)
    go (stopped c) e = refl

-- a work call's steps and stop are the model's, and its store the bytes of the model's index
pub work-encode : (x : Index) → WF x → (budget : ℕ) → budget_ok budget ≡ true
    → work_outcome (encode x) budget
    ≡ record {
      answer = Ok (work_of (work budget x).steps (work budget x).stop);
      store = encode
          (work budget x).state;
    }
unfolding work_outcome work
work-encode x w budget e =
    let a = iterate-alike Encodes step_outcome step (step-alike of_splits) budget (encode x) x (w, refl) in
    let t = ap (λ (b : Bool). tested b (encode x)) e ∙ tested-encode x w in
    ap (λ (t : Tested). work_on t (encode x) (iterate step_outcome budget (encode x))) t
    ∙ (λ i. record { answer = Ok (work_of (a.steps i) (a.stop i)); store = a.state.1 i })

work-wrong : (x : Index) → WF x → (budget : ℕ) → budget_ok budget ≡ false
    → work_outcome (encode x) budget ≡ record { answer = Err Refusal.Number; store = encode x }
unfolding work_outcome
work-wrong x w budget e =
    ap (λ (t : Tested). work_on t (encode x) (iterate step_outcome budget (encode x)))
    (ap (λ (b : Bool). tested b (encode x)) e ∙ tested-wrong x w)

-- and so a squeeze's
pub squeeze-encode : (x : Index) → WF x → (b budget : ℕ) → budget_ok budget ≡ true → bucket_test x b ≡ none
    → squeeze_outcome (encode x) b budget
    ≡ record {
      answer = Ok (work_of (squeeze b budget x).steps (squeeze b budget x).stop);
      store = encode (squeeze b budget x).state;
    }
unfolding squeeze_outcome squeeze
squeeze-encode x w b budget e f =
    let a = iterate-alike Encodes (squeeze_step_outcome b) (squeeze_step b) (step-alike (of_squeeze b)) budget (encode x) x
    (w, refl) in
    let t = ap (λ (b : Bool). tested b (encode x)) e ∙ tested-encode x w in
    ap (λ (t : Tested). work_on t (encode x) (iterate (squeeze_step_outcome b) budget (encode x)))
    (bucket-passes (tested (budget_ok budget) (encode x)) b x t f)
    ∙ (λ i. record { answer = Ok (work_of (a.steps i) (a.stop i)); store = a.state.1 i })

-- ---- all calls at once

-- the model's reply, with the bytes of its index
abbrev pub written : Ran Index → Ran (List ℕ)
written r = record { reply = r.reply; state = encode r.state }

plainly : Changed → Ran (List ℕ)
plainly c = record { reply = plain c.answer; state = c.store }

settle : (x : Index) (r : Result) → plainly (changed (encode x) r) ≡ written (settled x r)
unfolding plainly
settle x (done y) = refl
settle x (refused r) = refl

pub run-encode : (c : Call) (x : Index) → WF x → run_store c (encode x) ≡ written (run_index c x)
unfolding run_store run_index plainly squeeze_outcome
run-encode (formatting o) x w = ap plainly (format-encode x w o) ∙ settle x (formatted x o)
run-encode (inserting p) x w = ap plainly (insert-encode x w p) ∙ settle x (insert x p)
run-encode (removing p) x w = ap plainly (remove-encode x w p) ∙ settle x (remove x p)
run-encode (looking h out) x w =
    ap (λ (l : Looked). record { reply = looked l; state = encode x }) (lookup-encode x w h out)
run-encode (working budget) x w = go (budget_ok budget) refl
  where
    ran : WorkDone → Ran (List ℕ)
    ran c = record { reply = worked c.answer; state = c.store }

    go : (b : Bool) → budget_ok budget ≡ b → ran (work_outcome (encode x) budget) ≡ written (worked_in b x (work budget x))
    go true e = ap ran (work-encode x w budget e)
    go false e = ap ran (work-wrong x w budget e)
run-encode (squeezing b budget) x w = go (budget_ok budget) refl (bucket_test x b) refl
  where
    ran : WorkDone → Ran (List ℕ)
    ran c = record { reply = worked c.answer; state = c.store }

    steps : Worked (List ℕ)
    steps = iterate (squeeze_step_outcome b) budget (encode x)

    tests : {t : Tested} → tested (budget_ok budget) (encode x) ≡ t
        → ran (squeeze_outcome (encode x) b budget) ≡ ran (work_on (bucket_tested t b) (encode x) steps)
    tests e = ap (λ (t : Tested). ran (work_on (bucket_tested t b) (encode x) steps)) e

    go : (a : Bool) → budget_ok budget ≡ a → (q : Option Refusal) → bucket_test x b ≡ q
        → ran (squeeze_outcome (encode x) b budget) ≡ written (squeezed_in a q x (squeeze b budget x))
    go true e none f = ap ran (squeeze-encode x w b budget e f)
    go true e (some r) f =
        tests (ap (λ (a : Bool). tested a (encode x)) e ∙ tested-encode x w)
        ∙ ap (λ (q : Option Refusal). ran (work_on (unless_refused q x) (encode x) steps)) f
    go false e q f = tests (ap (λ (a : Bool). tested a (encode x)) e ∙ tested-wrong x w)
run-encode asking x w = ap (λ (a : StandingAnswer). record { reply = stands a; state = encode x }) (standing-encode x w)
