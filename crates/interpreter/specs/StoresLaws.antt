-- Each line of a script leaves a store that a script can have.
use Rattle.std.specs.Prelude.{◌≡◌, ℕ, ◌*◌, ◌≤◌, Bool, true, false, not, ◌&&◌, ◌≢◌, List, [], length, replicate, nat_le, refl, Option, Some, None}
use Rattle.std.proofs.Common.{sym, ap, ◌∙◌, subst, arith, leb-true}
use Rattle.std.proofs.lemmas.List.{length-replicate}
use Rattle.lists.specs.Block.{blocks}
use Rattle.line.specs.declared.Command.{Command}
use Rattle.line.proofs.FitsLaws.{CommandFits}
use Rattle.model.specs.declared.Order.{Order}
use Rattle.model.specs.Index.{Job, idle, copying, clearing, Index}
use Rattle.model.specs.Steps.{next, step}
use Rattle.model.specs.Calls.{size_ok, order_of, format_ok, overwrites, format, format_in}
use Rattle.model.specs.Machine.{Call, formatting, inserting, removing, working, CallFits, Kind, of_splits, of_squeeze}
use Rattle.model.specs.Machine.{Ran, run_index, step_index}
use Rattle.model.proofs.FormatLaws.{format-wf}
use Rattle.model.proofs.FrameLaws.{SameJob, insert-frame, remove-frame, begin-frame, job-frame, squeeze-frame}
use Rattle.model.proofs.InsertLaws.{insert-wf}
use Rattle.model.proofs.RemoveLaws.{remove-wf}
use Rattle.model.proofs.KindLaws.{kind-wf, kind-store}
use Rattle.model.proofs.RunLaws.{run-keeps}
use Rattle.model.proofs.MachineLaws.{never}
use Rattle.image.proofs.BridgeTheorem.{encoding-is-sound}
use Rattle.outcomes.specs.Outcomes.{tested, store_in_use, changed, format_replacing, insert_outcome, remove_outcome}
use Rattle.image.specs.Rules.{length_ok}
use Rattle.outcomes.specs.Outcomes.{work_outcome, run_store}
use Rattle.outcomes.proofs.OutcomeIndexLaws.{run-encode}
use Rattle.outcomes.proofs.OutcomeSoundLaws.{legal-size}
use Rattle.interpreter.specs.Script.{script_blocks, format_turn, format_line, run_command}
use Rattle.interpreter.specs.Stores.{Made, ScriptStore, empty, bytes}

-- ---- a job of two buckets comes from no call: only a begin makes one

abbrev Begun : Index → Type 0
Begun x = x.job ≢ idle → 2 ≤ x.max_bucket

begun-same : {x y : Index} → SameJob x y → Begun x → Begun y
begun-same f h n = omega (arith, h (λ e. n (f.job ∙ e)), f.frame.max_bucket)

begun-step : (x y : Index) → Begun x → step x ≡ next y → 1 ≤ x.max_bucket → Begun y
begun-step x y h e one n = go x.job refl
  where
    busy : x.job ≢ idle → 2 ≤ y.max_bucket
    busy ne = omega (arith, h ne, (job-frame x y ne e).max_bucket)

    go : (j : Job) → x.job ≡ j → 2 ≤ y.max_bucket
    go idle q = omega (arith, (begin-frame x y q e).max_bucket)
    go copying q = busy (λ r. never (cc))
    go clearing q = busy (λ r. never (cc))

begun-kind : (k : Kind) (x y : Index) → Begun x → step_index k x ≡ next y → 1 ≤ x.max_bucket → Begun y
begun-kind of_splits x y h e one = begun-step x y h e one
begun-kind (of_squeeze b) x y h e one = begun-same (squeeze-frame b x y e) h

made-step : (k : Kind) (x y : Index) → Made x → step_index k x ≡ next y → Made y
made-step k x y m e =
    record {
      wf = kind-wf k x y m.wf e;
      begun = begun-kind k x y m.begun e m.wf.laid.two;
      small = omega (arith, (kind-store k x y e).size, m.small);
    }

made-format : (n : ℕ) (o : Order) → CallFits (formatting o) → size_ok n ≡ true → format_ok o ≡ true
    → n ≤ script_blocks → Made (format n o)
unfolding format
made-format n o fits so oo few = record { wf = format-wf n o fits so oo; begun = λ ne. absurd (ne refl); small = few }

made-run : (c : Call) → CallFits c → (x : Index) → Made x → Made (run_index c x).state
made-run =
    run-keeps Made
    (record {
      formats = λ x o f so oo m. made-format x.size o f so oo m.small;
      inserts =
          λ x p y m f e. record {
            wf = insert-wf x p y m.wf f e;
            begun = begun-same (insert-frame x p y e) m.begun;
            small = omega (arith, (insert-frame x p y e).frame.size, m.small);
          };
      removes =
          λ x p y m e. record {
            wf = remove-wf x p y m.wf e;
            begun = begun-same (remove-frame x p y e) m.begun;
            small = omega (arith, (remove-frame x p y e).frame.size, m.small);
          };
      steps = made-step;
    })

-- ---- the stores of a script

-- a call on such a store
call-store : (c : Call) → CallFits c → (s : List ℕ) → ScriptStore s
    → (run_store c []).state ≡ [] → ScriptStore (run_store c s).state
call-store c f [] empty e = subst ScriptStore (sym e) empty
call-store c f s (bytes x m) e =
    subst ScriptStore (sym (ap (λ (r : Ran (List ℕ)). r.state) (run-encode c x m.wf)))
    (bytes (run_index c x).state (made-run c f x m))

-- an accepted f makes one, and a refused one leaves what stands
format-store : (line n fill : ℕ) (o : Order) → CallFits (formatting o) → (z s : List ℕ) → blocks z ≤ script_blocks
    → ScriptStore s
    → let c = format_replacing s z o in ScriptStore (format_turn line n fill c.answer s c.store).store
unfolding format_replacing
format-store line n fill o fits z s few p =
    go (length_ok z) refl (format_ok o) refl (not (overwrites o) && store_in_use s)
  where
    go : (l : Bool) → length_ok z ≡ l → (f : Bool) → format_ok o ≡ f → (b : Bool)
        → let c = changed z (format_in l f b (format (blocks z) o)) in
        ScriptStore (format_turn line n fill c.answer s c.store).store
    go false h f k b = p
    go true h false k b = p
    go true h true k true = p
    go true h true k false = bytes (format (blocks z) o) (made-format (blocks z) o fits (legal-size z h) k few)

-- N of the script's, or refusal 1
line_store : (line n : ℕ) (o : Order) → CallFits (formatting o) → (s : List ℕ) → ScriptStore s
    → ScriptStore (format_line (nat_le n script_blocks) n o line s).store
unfolding blocks
line_store line n o fits s p = go (nat_le n script_blocks) refl
  where
    go : (t : Bool) → nat_le n script_blocks ≡ t → ScriptStore (format_line t n o line s).store
    go true e =
        format-store line n o.fill o fits (replicate (512 * n) 0) s
        (omega (arith, leb-true n script_blocks e, length-replicate {A = ℕ} (512 * n) 0)) p
    go false e = p

pub store-after : (c : Option Command) → CommandFits c → (line : ℕ) (s : List ℕ)
    → ScriptStore s → ScriptStore (run_command c line s).store
unfolding run_command run_store insert_outcome remove_outcome work_outcome tested length_ok blocks
store-after (Some (Command.Format n fill number overwrite)) f line s p =
    line_store line n (order_of fill number overwrite) (f.1, f.2, f.3) s p
store-after (Some (Command.Insert h b o)) f line s p =
    call-store (inserting (record { hash = h; block = b; offset = o })) f s p refl
store-after (Some (Command.Remove h b o)) f line s p =
    call-store (removing (record { hash = h; block = b; offset = o })) f s p refl
store-after (Some (Command.Lookup h)) f line s p = p
store-after (Some (Command.Work budget)) f line s p = call-store (working budget) f s p refl
store-after None f line s p = p

-- whole blocks, and no more than a script's
pub store-size : (s : List ℕ) → ScriptStore s → (length s ≡ 512 * blocks s) × (blocks s ≤ script_blocks)
unfolding blocks
store-size [] empty = (refl, omega arith)
store-size s (bytes x m) =
    let g = encoding-is-sound x m.wf in
    let few = m.small in
    (omega (arith, g.size), omega (arith, g.size, few))
