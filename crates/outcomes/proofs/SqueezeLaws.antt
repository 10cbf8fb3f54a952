-- An accepted squeeze of a store, by the index that it is read as.
use Rattle.std.specs.Prelude.{◌≡◌, true, List, ℕ, suc, ◌*◌, ◌/◌, leb, length, Ok}
use Rattle.std.proofs.Math.Path.{refl, ap}
use Rattle.std.proofs.Common.{sym, ◌∙◌, subst}
use Rattle.std.proofs.Math.Option.{Option, none, some}
use Rattle.std.proofs.Math.IntN.{sub_ℕ}
use Rattle.lists.specs.Bytes.{Bytes}
use Rattle.address.specs.Address.{split_from}
use Rattle.page.specs.declared.Pair.{Pair}
use Rattle.model.specs.declared.Refusal.{Refusal}
use Rattle.model.specs.declared.Stop.{Stop}
use Rattle.model.specs.Answers.{work_of}
use Rattle.model.specs.Index.{Index, chain, entries_at}
use Rattle.model.specs.Held.{matches, slack, count}
use Rattle.model.specs.Steps.{stopped, iterate}
use Rattle.model.specs.Squeeze.{squeeze_step, squeeze, bucket_test, pages_for, pages_of}
use Rattle.model.specs.Calls.{budget_ok, listed, lookup, phase_in, standing}
use Rattle.model.specs.Machine.{of_squeeze, on_index}
use Rattle.model.specs.WellFormed.{WF}
use Rattle.model.proofs.AnswerLaws.{worked-same}
use Rattle.model.proofs.FrameLaws.{SameJob, squeeze-frame}
use Rattle.model.proofs.WorkLaws.{iterate-keeps}
use Rattle.model.proofs.MachineLaws.{never, kind-unspent, iterate-ends}
use Rattle.model.proofs.SqueezeStepLaws.{squeeze-all, squeeze-packed}
use Rattle.image.specs.Layout.{encode}
use Rattle.image.specs.Decode.{decode}
use Rattle.image.proofs.BridgeTheorem.{encoding-is-sound}
use Rattle.outcomes.specs.Outcomes.{Tested, passed, failed, tested, lookup_outcome, standing_outcome, WorkDone}
use Rattle.outcomes.specs.Outcomes.{work_on, unless_refused, bucket_tested, squeeze_step_outcome, squeeze_outcome}
use Rattle.outcomes.proofs.OutcomeLaws.{passed-numbers}
use Rattle.outcomes.proofs.OutcomeIndexLaws.{encodes-read, lookup-encode, standing-encode, squeeze-encode}
use Rattle.outcomes.proofs.OutcomeSoundLaws.{passed-encodes}

-- ---- the index

-- a squeeze leaves size, fill, store number, max bucket and job
same-job : (b budget : ℕ) (x : Index) → SameJob x (squeeze b budget x).state
unfolding squeeze
same-job b budget x =
    iterate-keeps (squeeze_step b) (SameJob x)
    (λ y z h e.
    let f = squeeze-frame b y z e in
    let g = f.frame in
    let i = h.frame in
    record {
      frame = record {
        size = g.size ∙ i.size;
        fill = g.fill ∙ i.fill;
        number = g.number ∙ i.number;
        max_bucket = g.max_bucket ∙ i.max_bucket;
      };
      job = f.job ∙ h.job;
    })
    budget x
    (record { frame = record { size = refl; fill = refl; number = refl; max_bucket = refl }; job = refl })

same-lookup : (x y : Index) (h : ℕ) (out : List ℕ) → matches y h ≡ matches x h → lookup y h out ≡ lookup x h out
unfolding lookup
same-lookup x y h out e = ap (λ (ps : List Pair). listed (leb (length ps) (length out / 6)) ps out) e

same-standing : (x y : Index) → SameJob x y → count y ≡ count x → standing y ≡ standing x
unfolding standing slack
same-standing x y f c = λ i. record {
  count = c i;
  buckets = suc (f.frame.max_bucket i);
  phase = phase_in (f.job i) (split_from (f.frame.max_bucket i)) (f.frame.max_bucket i);
  slack = sub_ℕ (f.frame.fill i * suc (f.frame.max_bucket i)) (c i);
}

-- ---- the store

module _ (s : List ℕ) (bytes : Bytes s) (b budget : ℕ) where
  pub record Accepted (steps : ℕ) (r : Stop) : Type 0 where
    pub wf : WF (decode s)
    pub stop : r ≡ (squeeze b budget (decode s)).stop
    pub read : decode (squeeze_outcome s b budget).store ≡ (squeeze b budget (decode s)).state
    pub lookups : (hash : ℕ) (out : List ℕ)
        → lookup_outcome (squeeze_outcome s b budget).store hash out ≡ lookup_outcome s hash out
    pub stands : standing_outcome (squeeze_outcome s b budget).store ≡ standing_outcome s

  -- the index that both tests passed
  passing : {k : ℕ} {r : Stop} → (squeeze_outcome s b budget).answer ≡ Ok (work_of k r)
      → (x : Index) × (tested (budget_ok budget) s ≡ passed x) × (bucket_test x b ≡ none)
  unfolding squeeze_outcome
  passing {k} {r} e = go (tested (budget_ok budget) s) e
    where
      bucket : (q : Option Refusal) (x : Index)
          → (work_on (unless_refused q x) s (iterate (squeeze_step_outcome b) budget s)).answer ≡ Ok (work_of k r)
          → q ≡ none
      bucket none x e = refl
      bucket (some q) x e = never (cc)

      go : (t : Tested)
          → (work_on (bucket_tested t b) s (iterate (squeeze_step_outcome b) budget s)).answer ≡ Ok (work_of k r)
          → (x : Index) × (t ≡ passed x) × (bucket_test x b ≡ none)
      go (failed q) e = never (cc)
      go (passed x) e = (x, refl, bucket (bucket_test x b) x e)

  pub accepted : {k : ℕ} {r : Stop} → (squeeze_outcome s b budget).answer ≡ Ok (work_of k r) → Accepted k r
  accepted {k} {r} e =
      let p = passing e in
      let x = p.0 in
      let g = passed-encodes s bytes (budget_ok budget) x p.1 in
      of x g.0 g.1 (passed-numbers s (budget_ok budget) x p.1) p.2
    where
      of : (x : Index) → WF x → s ≡ encode x → budget_ok budget ≡ true → bucket_test x b ≡ none → Accepted k r
      of x w h n f =
          let q : squeeze_outcome s b budget
          ≡ record {
            answer = Ok (work_of (squeeze b budget x).steps (squeeze b budget x).stop);
            store = encode (squeeze b budget x).state;
          } =
          ap (λ (t : List ℕ). squeeze_outcome t b budget) h ∙ squeeze-encode x w b budget n f in
          let d : decode s ≡ x = encodes-read s x (w, h) in
          let all = squeeze-all b budget x w in
          let y : Index = (squeeze b budget x).state in
          let t = ap (λ (c : WorkDone). c.store) q in
          let told = ap (λ (c : WorkDone). c.answer) q in
          record {
            wf = subst WF (sym d) w;
            stop = subst (λ (z : Index). r ≡ (squeeze b budget z).stop) (sym d) (worked-same e told).1;
            read = ap decode t ∙ (encoding-is-sound y all.0).read ∙ ap (λ (z : Index). (squeeze b budget z).state) (sym d);
            lookups = λ i out.
                ap (λ (u : List ℕ). lookup_outcome u i out) t ∙ lookup-encode y all.0 i out
                ∙ same-lookup x y i out (all.3 i)
                ∙ sym (ap (λ (u : List ℕ). lookup_outcome u i out) h ∙ lookup-encode x w i out);
            stands =
                ap standing_outcome t ∙ standing-encode y all.0
                ∙ ap Ok (same-standing x y (same-job b budget x) all.1)
                ∙ sym (ap standing_outcome h ∙ standing-encode x w);
          }

  pub squeeze-pages : {k : ℕ} → (squeeze_outcome s b budget).answer ≡ Ok (work_of k Stop.Idle)
      → let t = decode (squeeze_outcome s b budget).store in pages_of (chain t b) ≡ pages_for (length (entries_at t b))
  squeeze-pages e =
      let a = accepted e in
      subst (λ (y : Index). pages_of (chain y b) ≡ pages_for (length (entries_at y b))) (sym a.read)
      (squeeze-packed b (squeeze b budget (decode s)).state (squeeze-all b budget (decode s) a.wf).0
      (idles (sym a.stop)))
    where
      -- the next step says so
      idles : (squeeze b budget (decode s)).stop ≡ Stop.Idle
          → squeeze_step b (squeeze b budget (decode s)).state ≡ stopped Stop.Idle
      idles z = unfold squeeze in
          let d = iterate-ends on_index (of_squeeze b) (kind-unspent (of_squeeze b)) budget (decode s) in
          (d.ended (λ q. (let l = d.spent.0 q in never (cc)))).1 ∙ ap stopped z
