-- "After every accepted call and every step the store is sound" (docs/RULES.md 6.11), and as long as it was.
use Rattle.std.specs.Prelude.{◌≡◌, Bool, true, false, not, ◌&&◌, List, ℕ, ◌*◌, ◌%◌, eqb, length, Ok}
use Rattle.std.proofs.Math.Path.{refl, subst}
use Rattle.std.proofs.Common.{sym, ap, ap₂, ◌∙◌, arith, eqb-true, eq-eqb}
use Rattle.lists.specs.ListsLaws.{and_left, and_right}
use Rattle.lists.specs.Bytes.{Bytes}
use Rattle.lists.specs.Block.{blocks}
use Rattle.model.specs.declared.Order.{Order}
use Rattle.model.specs.Index.{Index}
use Rattle.model.specs.Steps.{Step, next, stopped}
use Rattle.model.specs.Calls.{size_ok, format_ok, overwrites, format, format_in}
use Rattle.model.specs.Machine.{Call, formatting, CallFits, Kind, plain, accepted, Ran, run_index, step_index}
use Rattle.model.specs.Book.{effect}
use Rattle.model.specs.WellFormed.{WF}
use Rattle.model.proofs.FrameLaws.{insert-frame, remove-frame}
use Rattle.model.proofs.KindLaws.{kind-wf, kind-store}
use Rattle.model.proofs.RunLaws.{run-keeps, run-wf}
use Rattle.model.proofs.FormatLaws.{format-wf}
use Rattle.model.proofs.MachineLaws.{never}
use Rattle.image.specs.Layout.{encode}
use Rattle.image.specs.Rules.{sound, verdict}
use Rattle.outcomes.specs.Outcomes.{passed, tested, store_in_use, Changed, changed, format_replacing}
use Rattle.image.specs.Rules.{length_ok}
use Rattle.outcomes.specs.Outcomes.{format_outcome, step_on, run_store, step_store}
use Rattle.image.proofs.BridgeTheorem.{sound-is-encoding, encoding-is-sound}
use Rattle.outcomes.specs.Refusals.{call_numbers_ok}
use Rattle.outcomes.proofs.OutcomeLaws.{passed-sound, StoreRun, refuses, formats, reads, accepts, store_view}
use Rattle.image.specs.SoundStore.{Encodes, StaysSound}
use Rattle.outcomes.proofs.OutcomeIndexLaws.{step-encode, run-encode}

-- ---- the size stays

pub run-size : (c : Call) → CallFits c → (x : Index) → (run_index c x).state.size ≡ x.size
unfolding format
run-size c f x =
    run-keeps (λ (y : Index). y.size ≡ x.size)
    (record {
      formats = λ y o g s k h. h;
      inserts = λ y p z h k e. (insert-frame y p z e).frame.size ∙ h;
      removes = λ y p z h e. (remove-frame y p z e).frame.size ∙ h;
      steps = λ k y z h e. (kind-store k y z e).size ∙ h;
    })
    c f x refl

-- ---- sound stores

pub legal-size : (s : List ℕ) → length_ok s ≡ true → size_ok (blocks s) ≡ true
unfolding length_ok
legal-size s h = and_right (eqb (length s % 512) 0) (size_ok (blocks s)) h

-- n whole blocks
pub blocks_is : (s : List ℕ) (n : ℕ) → length s ≡ 512 * n → blocks s ≡ n
unfolding blocks
blocks_is s n e = omega (arith, e)

pub legal-is : (s : List ℕ) (n : ℕ) → length s ≡ 512 * n → length_ok s ≡ size_ok n
unfolding length_ok
legal-is s n e =
    ap₂ (λ (b : Bool) (k : ℕ). b && size_ok k) (eq-eqb (length s % 512) 0 (omega (arith, e))) (blocks_is s n e)

-- the bytes of an index of as many blocks
encoded : (s t : List ℕ) (y : Index) → length_ok s ≡ true → Encodes t y → y.size ≡ blocks s → StaysSound s t
unfolding length_ok blocks
encoded s t y h e z =
    let g = encoding-is-sound y e.0 in
    let m : length s % 512 ≡ 0 = eqb-true (length s % 512) 0 (and_left (eqb (length s % 512) 0) _ h) in
    record {
      index = y;
      sounds = ap verdict e.1 ∙ g.judged;
      legal = ap length_ok e.1 ∙ g.legal;
      bytes = subst Bytes (sym e.1) g.bytes;
      same = ap length e.1 ∙ g.size ∙ omega (arith, z, m);
    }

-- what an accepted format leaves
pub record Formatted (s : List ℕ) (o : Order) : Type 0 where
  pub legal : length_ok s ≡ true
  pub numbers : format_ok o ≡ true
  pub outcome : format_outcome s o ≡ record { answer = Ok tt; store = encode (format (blocks s) o) }
  pub wf : WF (format (blocks s) o)

pub format-done : (s : List ℕ) (o : Order) → CallFits (formatting o)
    → accepted (plain (format_outcome s o).answer) ≡ true → Formatted s o
unfolding format_replacing format_outcome
format-done s o fits e = go (length_ok s) refl (format_ok o) refl (not (overwrites o) && store_in_use s) refl e
  where
    go : (l : Bool) → length_ok s ≡ l → (f : Bool) → format_ok o ≡ f
        → (p : Bool) → (not (overwrites o) && store_in_use s) ≡ p
        → accepted (plain (changed s (format_in l f p (format (blocks s) o))).answer) ≡ true → Formatted s o
    go false h f k p q e = never (cc)
    go true h false k p q e = never (cc)
    go true h true k true q e = never (cc)
    go true h true k false q e =
        record {
          legal = h;
          numbers = k;
          outcome = rw (h, k, q);
          wf = format-wf (blocks s) o fits (legal-size s h) k;
        }

pub format-sound : (s : List ℕ) (o : Order) → CallFits (formatting o)
    → accepted (plain (format_outcome s o).answer) ≡ true
    → StaysSound s (format_outcome s o).store
unfolding format
format-sound s o fits e =
    let f = format-done s o fits e in
    encoded s (format_outcome s o).store (format (blocks s) o) f.legal
    (f.wf, ap (λ (c : Changed). c.store) f.outcome) refl

module _ (s : List ℕ) (b : Bytes s) where
  -- a call whose tests passed was made on the bytes of a well-formed index
  pub passed-encodes : (n : Bool) (x : Index) → tested n s ≡ passed x → Encodes s x
  passed-encodes n x e =
      let p = passed-sound s n x e in
      let g = sound-is-encoding s x b p.0 p.1 in
      (g.wf, g.bytes)

  size_is : (x : Index) → Encodes s x → x.size ≡ blocks s
  size_is x r = sym (ap blocks r.1 ∙ (encoding-is-sound x r.0).number)

  run_sound : (c : Call) → CallFits c → (x : Index) → tested (call_numbers_ok (effect c)) s ≡ passed x
      → StaysSound s (run_store c s).state
  run_sound c f x e =
      let r = passed-encodes (call_numbers_ok (effect c)) x e in
      let q = ap (run_store c) r.1 ∙ run-encode c x r.0 in
      encoded s (run_store c s).state (run_index c x).state (passed-sound s (call_numbers_ok (effect c)) x e).0
      (run-wf c f x r.0, ap (λ (a : Ran (List ℕ)). a.state) q) (run-size c f x ∙ size_is x r)

  pub call-sound : (c : Call) → CallFits c → accepted (run_store c s).reply ≡ true → StaysSound s (run_store c s).state
  unfolding format
  call-sound c f e = go (store_view c s) e refl
    where
      passing : {r : Ran (List ℕ)} (x : Index) → tested (call_numbers_ok (effect c)) s ≡ passed x → run_store c s ≡ r
          → StaysSound s r.state
      passing x k q = subst (λ (r : Ran (List ℕ)). StaysSound s r.state) q (run_sound c f x k)

      go : {r : Ran (List ℕ)} → StoreRun c s r → accepted r.reply ≡ true → run_store c s ≡ r
          → StaysSound s r.state
      go (refuses h) e q = never (cc)
      go (formats o i h k) e q =
          let w = format-wf (blocks s) o (subst CallFits i f) (legal-size s h) k in
          encoded s _ (format (blocks s) o) h (w, refl) refl
      go (reads {x = x} k) e q = passing x k q
      go (accepts {x = x} k h) e q = passing x k q

  pub step-sound : (k : Kind) (x : Index) (t : List ℕ) → length_ok s ≡ true → verdict s ≡ sound x
      → step_store k s ≡ next t → StaysSound s t
  step-sound k x t h v e = go (step_index k x) refl (sym (ap (step_store k) r.1 ∙ step-encode x r.0 k) ∙ e)
    where
      r : Encodes s x
      r = let g = sound-is-encoding s x b h v in (g.wf, g.bytes)

      go : (a : Step Index) → step_index k x ≡ a → step_on a ≡ next t → StaysSound s t
      go (next y) i q =
          let z : encode y ≡ t = cc in
          encoded s t y h (kind-wf k x y r.0 i, sym z) ((kind-store k x y i).size ∙ size_is x r)
      go (stopped c) i q = never (cc)
