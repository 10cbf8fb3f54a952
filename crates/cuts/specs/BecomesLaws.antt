-- What an insert, a removal or a step makes of a sound store: as long, under the same number, with right checks.
use Rattle.std.specs.Prelude.{◌≡◌, refl, Bool, true, false, cond, ℕ, ◌*◌, ◌≤◌}
use Rattle.std.proofs.Math.Path.{sym, ap}
use Rattle.std.proofs.Common.{◌∙◌, subst, arith}
use mathlib.Core.List.{List}
use Rattle.std.proofs.Math.ListN.{length}
use Rattle.lists.specs.Block.{block}
use Rattle.store.specs.Store.{checks, number_at, checked}
use Rattle.model.specs.Index.{Index}
use Rattle.model.specs.Steps.{Step, next, stopped}
use Rattle.model.specs.Machine.{Call, formatting, inserting, removing, looking, working, squeezing, asking, CallFits}
use Rattle.model.specs.Machine.{Kind, accepted, Ran, run_index, step_index}
use Rattle.model.specs.Book.{effect, number_after}
use Rattle.model.specs.WellFormed.{WF}
use Rattle.model.proofs.FrameLaws.{SameStore}
use Rattle.model.proofs.KindLaws.{kind-wf, kind-store}
use Rattle.model.proofs.MachineLaws.{never}
use Rattle.model.proofs.NumberLaws.{number-run}
use Rattle.model.proofs.RunLaws.{run-wf}
use Rattle.image.specs.Layout.{encode}
use Rattle.image.specs.SoundStore.{Encodes}
use Rattle.image.proofs.BridgeTheorem.{encoding-is-sound}
use Rattle.image.proofs.EncodeLaws.{number-encode, checked-encode}
use Rattle.outcomes.specs.Outcomes.{step_on, run_store, step_store}
use Rattle.outcomes.proofs.OutcomeIndexLaws.{step-encode, run-encode}
use Rattle.outcomes.proofs.OutcomeSoundLaws.{run-size}
use Rattle.journal.specs.Journal.{Disk}
use Rattle.journal.specs.Altered.{altered}
use Rattle.journal.specs.Cut.{Becomes}
use Rattle.cuts.specs.Events.{OneChange}
use Rattle.cuts.specs.EightTheorem.{run-touches, step-touches}

-- the store's number stays
one_store : (c : Call) → CallFits c → OneChange c → (x : Index) → SameStore x (run_index c x).state
one_store c f o x =
    record {
      size = run-size c f x;
      number =
          number-run c f x
          ∙ ap (λ (n : ℕ). cond (accepted (run_index c x).reply) n x.number) (stays c o)
          ∙ either (accepted (run_index c x).reply);
    }
  where
    either : (b : Bool) → cond b x.number x.number ≡ x.number
    either true = refl
    either false = refl

    stays : (c : Call) → OneChange c → number_after (effect c) x.number ≡ x.number
    stays (formatting p) o = absurd o
    stays (inserting p) o = refl
    stays (removing p) o = refl
    stays (looking h out) o = absurd o
    stays (working budget) o = absurd o
    stays (squeezing b budget) o = absurd o
    stays asking o = absurd o

module _ {d : Disk} {x : Index} (r : Encodes d.store x) where
  -- to the bytes of an index of the same size and number
  becomes : {y : Index} → WF y → SameStore x y → length (altered (encode x) (encode y)) ≤ 8
      → Becomes d x.size (encode y)
  unfolding checked
  becomes {y} w f few =
      let number = ap number_at r.1 ∙ number-encode x r.0.laid in
      record {
        size = ap length r.1 ∙ (encoding-is-sound x r.0).size;
        same = (encoding-is-sound y w).size ∙ ap (λ (n : ℕ). 512 * n) f.size;
        small = let s = r.0.laid.size in omega arith;
        numbered = let l = r.0.laid.number in omega (arith, number);
        few = omega (arith, few, ap (λ (s : List ℕ). length (altered s (encode y))) r.1);
        good = λ k h.
            ap (λ (n : ℕ). checks n k (block (encode y) k))
            (number ∙ sym f.number ∙ sym (number-encode y w.laid))
            ∙ checked-encode y w.laid k (omega (arith, f.size));
      }

  pub becomes-call : (c : Call) → CallFits c → OneChange c → Becomes d x.size (run_store c d.store).state
  becomes-call c f o =
      subst (Becomes d x.size)
      (sym (ap (λ (a : Ran (List ℕ)). a.state) (ap (run_store c) r.1 ∙ run-encode c x r.0)))
      (becomes (run-wf c f x r.0) (one_store c f o x) (run-touches x r.0 c f o))

  pub becomes-step : (k : Kind) {t : List ℕ} → step_store k d.store ≡ next t → Becomes d x.size t
  becomes-step k {t} e = go (step_index k x) refl (sym (ap (step_store k) r.1 ∙ step-encode x r.0 k) ∙ e)
    where
      go : (a : Step Index) → step_index k x ≡ a → step_on a ≡ next t → Becomes d x.size t
      go (next y) i q =
          let z : encode y ≡ t = cc in
          subst (Becomes d x.size) z
          (becomes (kind-wf k x y r.0 i) (kind-store k x y i) (step-touches x r.0 k y i))
      go (stopped c) i q = never (cc)
