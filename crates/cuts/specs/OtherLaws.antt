-- An accepted insert or removal, and each step, leaves another index.
use Rattle.std.specs.Prelude.{◌≡◌, refl, ◌≢◌, Bool, true, false, not, ◌&&◌, ◌||◌}
use Rattle.std.proofs.Common.{ap, ◌∙◌, arith}
use Rattle.page.specs.declared.Pair.{Pair}
use Rattle.page.specs.PairLaws.{same_refl}
use Rattle.model.specs.Index.{Job, idle, copying, clearing, Index, chain}
use Rattle.model.specs.Held.{held}
use Rattle.model.specs.Spare.{spare}
use Rattle.model.specs.StepsLeft.{steps_left}
use Rattle.model.specs.Steps.{next}
use Rattle.model.specs.Calls.{Result, done, refused, insert, remove}
use Rattle.model.specs.Machine.{Call, formatting, inserting, removing, looking, working, squeezing, asking, CallFits, Kind, of_splits, of_squeeze, accepted, settled}
use Rattle.model.specs.Machine.{run_index, step_index}
use Rattle.model.proofs.MachineLaws.{never}
use Rattle.model.proofs.RunLaws.{refused-no}
use Rattle.model.specs.WellFormed.{WF}
use Rattle.model.proofs.ViewLaws.{Inserting, inserted, insert-view, Removing, removed, remove-view}
use Rattle.model.proofs.FrameLaws.{begin-frame}
use Rattle.model.proofs.InsertLaws.{insert-held}
use Rattle.model.proofs.RemoveLaws.{remove-held}
use Rattle.model.proofs.StepsLeftLaws.{step-steps_left}
use Rattle.model.proofs.SqueezeStepLaws.{squeeze-spare}
use Rattle.cuts.specs.Events.{OneChange}

module _ (x y : Index) (w : WF x) where
  -- the pair is held now, or no more
  insert-other : (p : Pair) → CallFits (inserting p) → insert x p ≡ done y → x ≢ y
  insert-other p f e q =
      let h = insert-held x p y w f e p ∙ ap (λ (b : Bool). b || held x p) (same_refl p) in
      let g = free (rw e at (insert-view x p)) in
      never (let i = ap (λ (z : Index). held z p) q in cc)
    where
      free : {z : Index} → Inserting x p (done z) → held x p ≡ false
      free (inserted k l v) = l

  remove-other : (p : Pair) → remove x p ≡ done y → x ≢ y
  remove-other p e q =
      let h = remove-held x p y w e p ∙ ap (λ (b : Bool). not b && held x p) (same_refl p) in
      let g = there (rw e at (remove-view x p)) in
      never (let i = ap (λ (z : Index). held z p) q in cc)
    where
      there : {z : Index} → Removing x p (done z) → held x p ≡ true
      there (removed k l) = l

  pub step_other : (k : Kind) → step_index k x ≡ next y → x ≢ y
  step_other of_splits e q = go x.job refl
    where
      busy : x.job ≢ idle → ⊥
      busy h = omega (arith, step-steps_left x y w h e, ap steps_left q)

      go : (j : Job) → x.job ≡ j → ⊥
      go idle h = never (let i = ap (λ (z : Index). z.job) q in let g = (begin-frame x y h e).job in cc)
      go copying h = busy (λ i. never (cc))
      go clearing h = busy (λ i. never (cc))
  step_other (of_squeeze b) e q = omega (arith, squeeze-spare b x y w e, ap (λ (z : Index). spare (chain z b)) q)

pub call-other : (c : Call) → CallFits c → OneChange c → (x : Index) → WF x → accepted (run_index c x).reply ≡ true
    → x ≢ (run_index c x).state
unfolding run_index
call-other (inserting p) f o x w e = go (insert x p) refl e
  where
    go : (r : Result) → insert x p ≡ r → accepted (settled x r).reply ≡ true → x ≢ (settled x r).state
    go (done y) h e = insert-other x y w p f h
    go (refused r) h e = never (let n = refused-no r in cc)
call-other (removing p) f o x w e = go (remove x p) refl e
  where
    go : (r : Result) → remove x p ≡ r → accepted (settled x r).reply ≡ true → x ≢ (settled x r).state
    go (done y) h e = remove-other x y w p h
    go (refused r) h e = never (let n = refused-no r in cc)
call-other (formatting order) f o x w e = elim o [ ]
call-other (looking hash output) f o x w e = elim o [ ]
call-other (working budget) f o x w e = elim o [ ]
call-other (squeezing b budget) f o x w e = elim o [ ]
call-other asking f o x w e = elim o [ ]
