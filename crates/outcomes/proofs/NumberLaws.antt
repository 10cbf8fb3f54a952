-- The store number over calls: a store that format made has the number that it was given, and every other accepted
-- call leaves the number that the store has.
use Rattle.std.specs.Prelude.{◌≡◌, Bool, List, ℕ}
use Rattle.std.proofs.Math.Path.{refl, sym, ap}
use Rattle.std.proofs.Common.{◌∙◌, subst}
use Rattle.std.proofs.Math.Bool.{true, cond}
use Rattle.lists.specs.Bytes.{Bytes}
use Rattle.lists.specs.Block.{blocks}
use Rattle.store.specs.Store.{number_at}
use Rattle.model.specs.Index.{Index}
use Rattle.model.specs.Calls.{format}
use Rattle.model.specs.Machine.{Call, CallFits, accepted, Ran, run_index}
use Rattle.model.specs.Book.{effect, number_after}
use Rattle.model.proofs.FormatLaws.{format-wf}
use Rattle.model.proofs.NumberLaws.{number-run}
use Rattle.model.proofs.MachineLaws.{never}
use Rattle.model.proofs.RunLaws.{run-wf}
use Rattle.image.proofs.EncodeLaws.{number-encode}
use Rattle.outcomes.specs.Outcomes.{passed, tested, run_store}
use Rattle.outcomes.specs.Refusals.{call_numbers_ok}
use Rattle.outcomes.proofs.OutcomeLaws.{StoreRun, refuses, formats, reads, accepts, store_view}
use Rattle.outcomes.proofs.OutcomeIndexLaws.{run-encode}
use Rattle.outcomes.proofs.OutcomeSoundLaws.{legal-size, passed-encodes}

module _ (s : List ℕ) (b : Bytes s) (c : Call) (f : CallFits c) where
  pub call-number : accepted (run_store c s).reply ≡ true
      → number_at (run_store c s).state ≡ number_after (effect c) (number_at s)
  unfolding format
  call-number e = go (store_view c s) e refl
    where
      passing : {r : Ran (List ℕ)} (x : Index) → tested (call_numbers_ok (effect c)) s ≡ passed x → run_store c s ≡ r
          → number_at r.state ≡ number_after (effect c) (number_at s)
      passing {r} x k q =
          let g = passed-encodes s b (call_numbers_ok (effect c)) x k in
          let ran = sym q ∙ ap (run_store c) g.1 ∙ run-encode c x g.0 in
          let ok : accepted (run_index c x).reply ≡ true =
          sym (ap (λ (a : Ran (List ℕ)). accepted a.reply) (ap (run_store c) g.1 ∙ run-encode c x g.0)) ∙ e in
          ap (λ (a : Ran (List ℕ)). number_at a.state) ran
          ∙ number-encode (run_index c x).state (run-wf c f x g.0).laid
          ∙ number-run c f x
          ∙ ap (λ (t : Bool). cond t (number_after (effect c) x.number) x.number) ok
          ∙ ap (number_after (effect c)) (sym (ap number_at g.1 ∙ number-encode x g.0.laid))

      go : {r : Ran (List ℕ)} → StoreRun c s r → accepted r.reply ≡ true → run_store c s ≡ r
          → number_at r.state ≡ number_after (effect c) (number_at s)
      go (refuses h) e q = never (cc)
      go (formats o i h k) e q =
          number-encode (format (blocks s) o) (format-wf (blocks s) o (subst CallFits i f) (legal-size s h) k).laid
          ∙ sym (ap (λ (d : Call). number_after (effect d) (number_at s)) i)
      go (reads {x = x} k) e q = passing x k q
      go (accepts {x = x} k h) e q = passing x k q
