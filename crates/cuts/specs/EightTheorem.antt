-- "no change touches more than 8 blocks": an accepted insert, an accepted removal, and a step of work or squeeze.
use Rattle.std.specs.Prelude.{◌≡◌, refl, List, ℕ, ◌≤◌, length}
use Rattle.std.proofs.Common.{sym, ap, ◌∙◌, subst, arith}
use Rattle.page.specs.declared.Pair.{Pair}
use Rattle.model.specs.Index.{Index, bucket}
use Rattle.model.specs.Steps.{Step, next, stopped}
use Rattle.model.specs.Calls.{done, insert, remove}
use Rattle.model.specs.Machine.{Call, formatting, inserting, removing, looking, working, squeezing, asking, CallFits}
use Rattle.model.specs.Machine.{Kind, of_splits, of_squeeze, Ran, run_index}
use Rattle.model.specs.Machine.{step_index}
use Rattle.model.specs.WellFormed.{WF}
use Rattle.model.proofs.MachineLaws.{never}
use Rattle.model.proofs.FrameLaws.{insert-frame, remove-frame}
use Rattle.model.proofs.InsertLaws.{insert-wf}
use Rattle.model.proofs.RemoveLaws.{remove-wf}
use Rattle.model.proofs.KindLaws.{kind-wf, kind-store}
use Rattle.image.specs.Layout.{encode}
use Rattle.image.specs.SoundStore.{Encodes}
use Rattle.frame.specs.Frame.{put_blocks, remove_blocks, step_blocks, squeeze_blocks}
use Rattle.frame.specs.CallsLaws.{frame-insert, frame-remove, frame_step, few-insert, few-remove, few-step}
use Rattle.frame.specs.SqueezeLaws.{frame-squeeze, few-squeeze}
use Rattle.outcomes.specs.Outcomes.{run_store, step_on, step_store}
use Rattle.outcomes.proofs.OutcomeIndexLaws.{run-encode, step-encode}
use Rattle.journal.specs.Altered.{altered}
use Rattle.cuts.specs.Events.{OneChange}
use Rattle.cuts.specs.FewLaws.{framed-store, touches, settled-few}

-- ---- of an index

module _ (x : Index) (w : WF x) where
  pub insert-touches : (p : Pair) (y : Index) → CallFits (inserting p) → insert x p ≡ done y
      → length (altered (encode x) (encode y)) ≤ 8
  insert-touches p y f e =
      touches x y w.laid (insert-wf x p y w f e).laid (framed-store x y (insert-frame x p y e).frame) 8
      (put_blocks x (bucket x p)) (few-insert x p) (frame-insert x w p y e)

  pub remove-touches : (p : Pair) (y : Index) → remove x p ≡ done y → length (altered (encode x) (encode y)) ≤ 8
  remove-touches p y e =
      touches x y w.laid (remove-wf x p y w e).laid (framed-store x y (remove-frame x p y e).frame) 8
      (remove_blocks x p) (few-remove x p) (frame-remove x w p y e)

  pub step-touches : (k : Kind) (y : Index) → step_index k x ≡ next y → length (altered (encode x) (encode y)) ≤ 8
  step-touches of_splits y e =
      touches x y w.laid (kind-wf of_splits x y w e).laid (kind-store of_splits x y e) 8 (step_blocks x) (few-step x)
      (frame_step x w y e)
  step-touches (of_squeeze b) y e =
      touches x y w.laid (kind-wf (of_squeeze b) x y w e).laid (kind-store (of_squeeze b) x y e) 8
      (squeeze_blocks x b) (omega (arith, few-squeeze x b)) (frame-squeeze x w b y e)

  -- an insert or a removal, refused ones too
  pub run-touches : (c : Call) → CallFits c → OneChange c
      → length (altered (encode x) (encode (run_index c x).state)) ≤ 8
  unfolding run_index
  run-touches (inserting p) f o = settled-few x w.laid 8 (insert x p) (λ y. insert-touches p y f)
  run-touches (removing p) f o = settled-few x w.laid 8 (remove x p) (remove-touches p)
  run-touches (formatting order) f o = elim o [ ]
  run-touches (looking hash output) f o = elim o [ ]
  run-touches (working budget) f o = elim o [ ]
  run-touches (squeezing b budget) f o = elim o [ ]
  run-touches asking f o = elim o [ ]

-- ---- of a store

module _ (s : List ℕ) (x : Index) (r : Encodes s x) where
  pub change-touches : (c : Call) → CallFits c → OneChange c → length (altered s (run_store c s).state) ≤ 8
  change-touches c f o =
      subst (λ (t : List ℕ). length (altered t (run_store c t).state) ≤ 8) (sym r.1)
      (subst (λ (a : Ran (List ℕ)). length (altered (encode x) a.state) ≤ 8) (sym (run-encode c x r.0))
      (run-touches x r.0 c f o))

  pub step-touches-store : (k : Kind) (t : List ℕ) → step_store k s ≡ next t → length (altered s t) ≤ 8
  step-touches-store k t e =
      go (step_index k x) refl (sym (ap (step_store k) r.1 ∙ step-encode x r.0 k) ∙ e)
    where
      go : (a : Step Index) → step_index k x ≡ a → step_on a ≡ next t → length (altered s t) ≤ 8
      go (next y) i q =
          let z : encode y ≡ t = cc in
          subst (λ (u : List ℕ). length (altered u t) ≤ 8) (sym r.1)
          (subst (λ (t : List ℕ). length (altered (encode x) t) ≤ 8) z (step-touches x r.0 k y i))
      go (stopped c) i q = never (cc)
