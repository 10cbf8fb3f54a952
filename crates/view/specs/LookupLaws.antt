-- The matches of a hash code can be written where there is room; and the answer, by their number.
use Rattle.std.specs.Prelude.{◌≡◌, Bool, List, ℕ, ◌/◌, ◌≤◌, ◌<◌, length, take, Ok, Err}
use Rattle.std.proofs.Math.Path.{sym}
use Rattle.std.proofs.Common.{ap, ◌∙◌, arith, le-leb}
use Rattle.std.proofs.lemmas.Bool.{lt-leb}
use Rattle.page.specs.Pair.{ascending}
use Rattle.model.specs.Index.{Index}
use Rattle.model.specs.Held.{self, matches}
use Rattle.model.specs.declared.Refusal.{Refusal}
use Rattle.model.specs.Calls.{lookup}
use Rattle.image.specs.declared.Meta.{Meta}
use Rattle.image.specs.Decode.{decode}
use Rattle.model.proofs.MatchesLaws.{matches-ascending}
use Rattle.chain.specs.Along.{pairs_along}
use Rattle.view.specs.Reads.{Reads}
use Rattle.view.specs.Places.{Sourced}
use Rattle.view.specs.Lookup.{written, Listable}
use Rattle.view.specs.SourcedLaws.{sourced-matches}

-- where there is room for them, the pairs along the walks of the sources can be written
module _ {s : List ℕ} {m : Meta} (r : Reads s m) (h : ℕ) {own : List ℕ} {n : ℕ} {old : List ℕ} {k : ℕ} {fresh : Bool}
    (w : Sourced (decode s) h own n old k fresh) (out : List ℕ) where
  pub sourced-listable : (c : ℕ) → c ≡ length (pairs_along s (take n own) (take k old) h fresh) → c ≤ length out / 6
      → Listable (pairs_along s (take n own) (take k old) h fresh) out
  sourced-listable c e l =
      record {
        ascends =
            ap (ascending self) (sourced-matches r h w) ∙ matches-ascending (decode s) r.wf h;
        room = omega (arith, e);
      }

-- ---- the answer, by the number of matches

module _ (x : Index) (h : ℕ) (out : List ℕ) (n : ℕ) (number : n ≡ length (matches x h)) where
  pub lookup-short : length out / 6 < n
      → lookup x h out ≡ record { answer = Err (Refusal.OutputShort n); output = out }
  unfolding lookup
  lookup-short l =
      rw (lt-leb (length (matches x h)) (length out / 6) (omega (arith, number)))
      (ap (λ (k : ℕ). record { answer = Err (Refusal.OutputShort k); output = out }) (sym number))

  pub lookup-written : (out' : List ℕ) → n ≤ length out / 6 → out' ≡ written (matches x h) out
      → lookup x h out ≡ record { answer = Ok n; output = out' }
  unfolding lookup written
  lookup-written out' l e =
      rw (le-leb (length (matches x h)) (length out / 6) (omega (arith, number)))
      (λ i. record { answer = Ok (sym number i); output = sym e i })
