-- A SQUEEZE OF A STORE (docs/RULES.md 6.13): what lookups and standing answer stays; at stop 9 the bucket's chain has
-- as few pages as its entries need; a budget of 40 times its overflow pages leaves such a chain, whatever the stop, and
-- comes to stop 9 if it is more, or if these are two or more.
use Rattle.std.specs.Prelude.{◌≡◌, List, ℕ, ◌*◌, ◌≤◌, ◌<◌, length, Ok}
use Rattle.std.proofs.Common.{sym, ◌∙◌, subst, arith}
use Rattle.lists.specs.Bytes.{Bytes}
use Rattle.model.specs.declared.Stop.{Stop}
use Rattle.model.specs.Answers.{work_of}
use Rattle.model.specs.Index.{Index, chain, entries_at}
use Rattle.model.specs.Squeeze.{pages_for, pages_of}
use Rattle.model.proofs.SqueezeStepLaws.{squeeze-enough, squeeze-ends, squeeze-forty, spare-bound}
use Rattle.image.specs.Decode.{decode}
use Rattle.outcomes.specs.Outcomes.{lookup_outcome, standing_outcome, squeeze_outcome}
use Rattle.outcomes.proofs.SqueezeLaws.{accepted, squeeze-pages}

module _ (s : List ℕ) (bytes : Bytes s) (b budget : ℕ) where
  -- the store afterwards
  abbrev after : List ℕ
  after = (squeeze_outcome s b budget).store

  -- an accepted squeeze changes no lookup and no standing
  pub squeeze-stays : {k : ℕ} {r : Stop} → (squeeze_outcome s b budget).answer ≡ Ok (work_of k r)
      → ((hash : ℕ) (out : List ℕ) → lookup_outcome after hash out ≡ lookup_outcome s hash out)
      × (standing_outcome after ≡ standing_outcome s)
  squeeze-stays e = let a = accepted s bytes b budget e in (a.lookups, a.stands)

  -- "At stop 9 a chain of n entries has exactly n / 40 pages, rounded up, or one if n is 0"
  pub squeeze-packs : {k : ℕ} → (squeeze_outcome s b budget).answer ≡ Ok (work_of k Stop.Idle)
      → pages_of (chain (decode after) b) ≡ pages_for (length (entries_at (decode after) b))
  squeeze-packs e = squeeze-pages s bytes b budget e

  -- a budget of 40 for each overflow page leaves such a chain; one of more comes to stop 9, and so does one of as much
  -- where there are two overflow pages or more
  pub squeeze-reaches : {k : ℕ} {r : Stop} → (squeeze_outcome s b budget).answer ≡ Ok (work_of k r)
      → 40 * length (chain (decode s) b).more ≤ budget
      → (pages_of (chain (decode after) b) ≡ pages_for (length (entries_at (decode after) b)))
      × (40 * length (chain (decode s) b).more < budget → r ≡ Stop.Idle)
      × (2 ≤ length (chain (decode s) b).more → r ≡ Stop.Idle)
  squeeze-reaches {k} {r} e l =
      let a = accepted s bytes b budget e in
      let x = decode s in (
        subst (λ (y : Index). pages_of (chain y b) ≡ pages_for (length (entries_at y b))) (sym a.read)
            (squeeze-enough b budget x a.wf (omega (arith, spare-bound b x, l))).1,
        λ m. a.stop ∙ (squeeze-ends b budget x a.wf (omega (arith, spare-bound b x, m))).stop,
        λ two. a.stop ∙ (squeeze-forty b budget x a.wf two l).stop,
      )
