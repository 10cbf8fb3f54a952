-- A store does as the well-formed index does whose bytes it is: a simulation, by which demand 3 carries over.
use Rattle.std.specs.Prelude.{◌≡◌, refl, Bool, true, false, not, ◌&&◌, List, ℕ, Ok}
use Rattle.std.proofs.Common.{sym, ap, ap₂, ◌∙◌, subst}
use Rattle.std.proofs.Math.Option.{Option, none, some}
use Rattle.lists.specs.Block.{blocks}
use Rattle.endian.specs.Endian.{u32_at}
use Rattle.model.specs.declared.Order.{Order}
use Rattle.model.specs.declared.Refusal.{Refusal}
use Rattle.model.specs.Index.{Index}
use Rattle.model.specs.Squeeze.{squeeze, bucket_test}
use Rattle.model.specs.Calls.{in_use, overwrites, budget_ok, format, format_in, formatted, work}
use Rattle.model.specs.Machine.{formatting, CallFits, Kind, of_splits, of_squeeze, stepping, plain, accepted, Ran, settled}
use Rattle.model.specs.Machine.{worked_in, squeezed_in, run_index, on_index}
use Rattle.model.proofs.MachineLaws.{never}
use Rattle.model.specs.Demand.{WorkIs}
use Rattle.model.proofs.RunLaws.{refused-no, run-wf}
use Rattle.model.specs.WellFormed.{WF}
use Rattle.model.proofs.FormatLaws.{format-free}
use Rattle.model.proofs.SimulationLaws.{Formats, Simulates}
use Rattle.image.specs.Layout.{encode}
use Rattle.outcomes.specs.Outcomes.{tested, Changed, run_store, on_store}
use Rattle.image.proofs.BridgeTheorem.{count-encode}
use Rattle.outcomes.proofs.OutcomeLaws.{work-steps, squeeze-steps}
use Rattle.outcomes.proofs.OutcomeSoundLaws.{legal-size, Formatted, format-done}
use Rattle.image.specs.SoundStore.{Encodes}
use Rattle.outcomes.proofs.OutcomeIndexLaws.{tested-encode, step-alike, run-encode}

-- a store that format accepts becomes the bytes of what the model's format gives
formats : (s : List ℕ) (o : Order) → CallFits (formatting o) → accepted (run_store (formatting o) s).reply ≡ true
    → Formats on_index on_store Encodes s o
unfolding run_store run_index formatted format
formats s o fits e =
    record {
      from = y;
      taken = ap (λ (a : Ran Index). accepted a.reply) ran;
      related = (
        subst WF (sym (ap (λ (a : Ran Index). a.state) ran)) f.wf,
        ap (λ (c : Changed). c.store) f.outcome ∙ ap (λ (a : Ran Index). encode a.state) (sym ran),
      );
    }
  where
    f : Formatted s o
    f = format-done s o fits e

    y : Index
    y = format (blocks s) o

    ran : run_index (formatting o) (format (blocks s) o)
        ≡ record { reply = plain (Ok tt); state = format (blocks s) o }
    ran =
        ap₂ (λ (a b : Bool). settled y (format_in a b (not (overwrites o) && in_use y) y))
        (legal-size s f.legal) f.numbers
        ∙ ap (λ (p : Bool). settled y (format_in true true p y)) (format-free (blocks s) o)

-- a work or squeeze call that the index accepts is made of the store's own steps
works : (k : Kind) (s : List ℕ) (x : Index) → Encodes s x → (budget : ℕ)
    → accepted (run_index (stepping k budget) x).reply ≡ true → WorkIs on_store k s budget
unfolding run_index
works of_splits s x r budget e = go (budget_ok budget) refl e
  where
    go : (a : Bool) → budget_ok budget ≡ a → accepted (worked_in a x (work budget x)).reply ≡ true
        → WorkIs on_store of_splits s budget
    go true h e = work-steps s budget x (ap₂ tested h r.1 ∙ tested-encode x r.0)
    go false h e = never (cc)
works (of_squeeze b) s x r budget e = go (budget_ok budget) refl (bucket_test x b) refl e
  where
    go : (a : Bool) → budget_ok budget ≡ a → (q : Option Refusal) → bucket_test x b ≡ q
        → accepted (squeezed_in a q x (squeeze b budget x)).reply ≡ true → WorkIs on_store (of_squeeze b) s budget
    go true h none g e = squeeze-steps s b budget x (ap₂ tested h r.1 ∙ tested-encode x r.0) g
    go true h (some q) g e = let n = refused-no q in never (cc)
    go false h q g e = never (cc)

-- the bytes of a well-formed index do as the index does
pub simulates : Simulates on_index on_store Encodes
simulates =
    record {
      reply = λ c f s x r. ap (λ (a : Ran (List ℕ)). a.reply) (ap (run_store c) r.1 ∙ run-encode c x r.0);
      state =
          λ c f s x r. (
            run-wf c f x r.0,
            ap (λ (a : Ran (List ℕ)). a.state)
                (ap (run_store c) r.1 ∙ run-encode c x r.0),
          );
      step = step-alike;
      stored = λ s x r. ap (λ (t : List ℕ). u32_at t 8) r.1 ∙ count-encode x r.0;
      works = works;
      formats = formats;
    }
