-- A pair is held as often as it stands among its sources: `held`, as a number.
use Rattle.std.specs.Prelude.{◌≡◌, refl, ◌≢◌, Bool, true, false, not, ◌&&◌, List, ℕ, ◌+◌, ◌≤◌, ◌<◌, eqb, length}
use Rattle.std.proofs.Common.{sym, ap, ◌∙◌, arith}
use Rattle.std.proofs.Math.Option.{none, some}
use Rattle.lists.specs.Lists.{b2n, any, tally, keep, find}
use Rattle.lists.specs.ListsLaws.{eqb_yes, eqb-eq, tally-append, tally-keep, tally-cong, tally-le, any-no, any-yes}
use Rattle.lists.specs.ListsLaws.{zero-any, find-no, find-yes}
use Rattle.address.specs.MaskLaws.{split-lt}
use Rattle.address.proofs.BucketLaws.{bucket-le}
use Rattle.page.specs.declared.Pair.{Pair}
use Rattle.page.specs.declared.Entry.{Entry}
use Rattle.page.specs.Pair.{is}
use Rattle.page.specs.PairLaws.{same_refl, same-eq}
use Rattle.model.specs.Index.{Job, idle, copying, clearing, Index, entries_at, bucket, new_bucket, old_bucket}
use Rattle.model.specs.Held.{sources_in, sources, held}
use Rattle.model.specs.Steps.{moves}
use Rattle.model.specs.TallyLaws.{and_comm, b2n-eq, tally-parts}
use Rattle.model.specs.WellFormed.{unmoved_at, moved_at, Laid, WF}
use Rattle.model.specs.HeldIn.{held_no, held_in}
use Rattle.model.specs.PlacedLaws.{held-le}

-- ---- buckets in range

module _ (x : Index) (l : Laid x) where
  pub old-new : old_bucket x ≢ new_bucket x
  old-new e = omega (arith, split-lt x.max_bucket l.two, e)

  pub home-range : (p : Pair) → bucket x p < length x.chains
  home-range p = omega (arith, bucket-le x.max_bucket p.hash l.two, l.whole)

  pub old-range : old_bucket x < length x.chains
  old-range = omega (arith, split-lt x.max_bucket l.two, l.whole)

  pub new-range : new_bucket x < length x.chains
  new-range = omega (arith, l.whole)

-- ---- moved and unmoved make all

pub is-parts : (p : Pair) (es : List Entry)
    → tally (is p) es ≡ tally (λ e. is p e && not e.moved) es + tally (λ e. is p e && e.moved) es
is-parts p es =
    omega (
      arith,
      tally-parts (λ (e : Entry). e.moved) (is p) es,
      tally-cong _ (λ (e : Entry). is p e && e.moved) es (λ e. and_comm e.moved (is p e)),
      tally-cong _ (λ (e : Entry). is p e && not e.moved) es (λ e. and_comm (not e.moved) (is p e)),
    )

module _ (x : Index) (p : Pair) (b : ℕ) where
  pub stands-none : any (is p) (entries_at x b) ≡ false → unmoved_at x p b + moved_at x p b ≡ 0
  stands-none e = omega (arith, any-no (is p) (entries_at x b) e, is-parts p (entries_at x b))

  pub none-stands : unmoved_at x p b + moved_at x p b ≡ 0 → any (is p) (entries_at x b) ≡ false
  none-stands e = zero-any (is p) (entries_at x b) (omega (arith, is-parts p (entries_at x b)))

  -- a pair all of whose entries pass a test that none there passes
  pub stands-passed : (t : Entry → Bool) → find t (entries_at x b) ≡ none → ((e : Entry) → is p e ≡ true → t e ≡ true)
      → unmoved_at x p b + moved_at x p b ≡ 0
  stands-passed t h f =
      omega (arith, find-no t (entries_at x b) h, tally-le (is p) t (entries_at x b) f, is-parts p (entries_at x b))

-- an entry that was found stands there
pub found-stands : (x : Index) (t : Entry → Bool) (b : ℕ) (e : Entry) → find t (entries_at x b) ≡ some e
    → 1 ≤ unmoved_at x e.pair b + moved_at x e.pair b
found-stands x t b e h =
    omega (
      arith,
      (find-yes t (entries_at x b) e h).1 (is e.pair),
      ap b2n (same_refl e.pair),
      is-parts e.pair (entries_at x b),
    )

pub moves-yes : (x : Index) (p : Pair) (e : Entry) → bucket x p ≡ new_bucket x → is p e ≡ true → moves x e ≡ true
moves-yes x p e k i = eqb_yes (bucket x e.pair) (new_bucket x) (ap (bucket x) (sym (same-eq p e.pair i)) ∙ k)

-- ---- held

keep-unmoved : (p : Pair) (es : List Entry)
    → tally (is p) (keep (λ e. not e.moved) es) ≡ tally (λ e. is p e && not e.moved) es
keep-unmoved p es =
    tally-keep (is p) (λ e. not e.moved) es ∙ tally-cong _ _ es (λ e. and_comm (not e.moved) (is p e))

pub sources-number : (x : Index) (p : Pair) → tally (is p) (sources x p.hash) ≡ held_in x p
unfolding sources held_in
sources-number x p = go x.job (eqb (bucket x p) (new_bucket x)) refl
  where
    go : (j : Job) (b : Bool) → eqb (bucket x p) (new_bucket x) ≡ b
        → tally (is p) (sources_in j x (bucket x p) b)
        ≡ held_no j (new_bucket x) (old_bucket x) (bucket x p) (unmoved_at x p) (moved_at x p)
    go idle b e = is-parts p (entries_at x (bucket x p))
    go clearing b e = is-parts p (entries_at x (bucket x p))
    go copying true e =
        tally-append (is p) (keep (λ d. not d.moved) (entries_at x (bucket x p))) (entries_at x (old_bucket x))
        ∙ rw e
        (omega (
          arith,
          keep-unmoved p (entries_at x (bucket x p)),
          is-parts p (entries_at x (old_bucket x)),
          ap (unmoved_at x p) (eqb-eq (bucket x p) (new_bucket x) e),
        ))
    go copying false e = rw e (is-parts p (entries_at x (bucket x p)))

pub held-yes : (x : Index) (p : Pair) → held x p ≡ true → 1 ≤ held_in x p
unfolding held
held-yes x p h = rw (← sources-number x p) (any-yes (is p) (sources x p.hash) h)

pub held-no : (x : Index) (p : Pair) → held x p ≡ false → held_in x p ≡ 0
unfolding held
held-no x p h = sym (sources-number x p) ∙ any-no (is p) (sources x p.hash) h

module _ (x : Index) (w : WF x) (p : Pair) where
  -- a pair is held once or not at all
  pub held_in-le : held_in x p ≤ 1
  unfolding held_in
  held_in-le = held-le (new_bucket x) (old_bucket x) (bucket x p) (unmoved_at x p) (moved_at x p) x.job (w.placed p)

  pub held_in-held : held_in x p ≡ b2n (held x p)
  held_in-held = go (held x p) refl
    where
      go : (b : Bool) → held x p ≡ b → held_in x p ≡ b2n b
      go true e = omega (arith, held-yes x p e, held_in-le)
      go false e = held-no x p e

  -- what is held follows from the number
  pub held-is : (c : Bool) → held_in x p ≡ b2n c → held x p ≡ c
  held-is c k = b2n-eq (held x p) c (sym held_in-held ∙ k)
