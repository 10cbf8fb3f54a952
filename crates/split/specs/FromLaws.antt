-- A job goes forward along the old chain: what was passed stays passed. So the next step of a work call may search
-- from behind the entry that was copied, or from where the cleared one stood.
use Rattle.std.specs.Prelude.{◌≡◌, refl, Bool, true, false, cond, not, ◌&&◌, ◌||◌, List, [], ◌∷◌, ◌++◌, map, ℕ, zero, suc, ◌+◌, ◌≤◌, ◌<◌, eqb, length, take, drop, Option as StdOption, Some, None, IfSome}
use Rattle.std.proofs.Common.{sym, ap, ap₂, ◌∙◌, add-one, arith, ltb-false}
use Rattle.std.proofs.Math.Path.{subst}
use Rattle.std.proofs.Math.Option.{Option, none, some}
use Rattle.std.proofs.lemmas.Bool.{not-false}
use Rattle.std.proofs.Math.ListN.{get_or-eq_default}
use Rattle.lists.specs.Lists.{b2n, any, tally, keep, find}
use Rattle.lists.specs.ListsLaws.{and-false, tally-le, keep_append, find-yes}
use Rattle.page.specs.declared.Pair.{Pair}
use Rattle.page.specs.declared.Entry.{Entry}
use Rattle.page.specs.Pair.{same, is}
use Rattle.page.specs.PairLaws.{no_way, same_refl, same-eq, same-sym}
use Rattle.model.specs.Index.{Page, Chain, idle, copying, clearing, Index, on_pages, entries_in, no_chain, chain}
use Rattle.model.specs.Index.{entries_at, bucket, new_bucket, old_bucket, set_chain}
use Rattle.model.specs.Pages.{thin_entries, thin, in_use, without, cut}
use Rattle.model.specs.Steps.{next, or_full, widen, moves, to_copy}
use Rattle.model.specs.WellFormed.{WF}
use Rattle.model.specs.TallyLaws.{any-more}
use Rattle.model.specs.StandLaws.{chain-here, number-here, chain-there}
use Rattle.model.proofs.HeldLaws.{old-new, old-range, new-range}
use Rattle.model.specs.PlacedLaws.{clearing-copying}
use Rattle.model.proofs.ViewLaws.{moved_entry, PutAs, put_as, Putting, put_view}
use Rattle.model.proofs.LaidLaws.{chain-wider}
use Rattle.model.proofs.BeginLaws.{begin-widens}
use Rattle.model.proofs.StepsLeftLaws.{stands-once}
use Rattle.model.proofs.MachineLaws.{never}
use Rattle.split.specs.declared.Spot.{Spot}
use Rattle.split.specs.declared.Position.{Position}
use Rattle.split.specs.Mover.{movable, copied}
use Rattle.split.specs.MoverLaws.{movable-same}
use Rattle.split.specs.Spot.{SpotIn}
use Rattle.split.specs.SpotLaws.{marks-later, put-spot, cut-spot}
use Rattle.split.specs.Seek.{Before, After, Stands, job_of, From, Leads}
use Rattle.split.specs.SeekLaws.{before-next, after_more, after-only, before-from}
use Rattle.split.specs.StepLaws.{step-copies, step-clears}

-- the first place, with nothing known of copies
pub from_start : (x : Index) (p : Position) → (p.place ≡ 0) × (p.fresh ≡ false) × (p.page ≡ None) → From x p
from_start x p z =
    record {
      none = λ c j. ap (λ (k : ℕ). tally (movable c x) (take k (entries_at x (old_bucket x)))) z.0;
      fresh = λ j t. no_way t z.1;
      page = subst (λ (o : StdOption Spot). IfSome o (λ g. SpotIn x g p.place)) (sym z.2) tt;
    }

pub leads-start : (x : Index) (p : Position) → (p.place ≡ 0) × (p.fresh ≡ false) × (p.page ≡ None) → Leads x p
leads-start x p z y h = from_start y p z

-- ---- a split that begins: the new chain has no entries

pub begin-leads : (x : Index) → WF x → x.job ≡ idle → Leads x (record { place = 0; fresh = true; page = None })
begin-leads x w j y h =
    record {
      none = λ c i. refl;
      fresh = λ i f. go (entries_at y (old_bucket y));
      page = tt;
    }
  where
    b : (sp : List ℕ) × (y ≡ widen x sp)
    b = begin-widens x y j h

    empty : entries_at y (new_bucket y) ≡ []
    empty =
        ap (λ (v : Index). entries_at v (new_bucket v)) b.1
        ∙ ap entries_in (chain-wider x.chains (suc x.max_bucket)
        ∙ get_or-eq_default x.chains no_chain (omega (arith, w.laid.whole)))

    go : (es : List Entry) → tally (copied y) es ≡ 0
    go [] = refl
    go (e ∷ es) = omega (arith, ap (λ (ds : List Entry). b2n (any (is e.pair) ds)) empty, go es)

-- ---- an entry e that is copied

module _ (x : Index) (w : WF x) (e : Entry) where
  abbrev n : ℕ
  n = new_bucket x

  abbrev o : ℕ
  o = old_bucket x

  module _ {z : Index} (a : PutAs x (new_bucket x) (moved_entry e.pair) z) (k : ℕ)
      (s : Stands (to_copy x) (entries_at x (old_bucket x)) e k) where
    abbrev y : Index
    y = set_chain x a.spares n a.pages

    there : entries_at y o ≡ entries_at x o
    there = ap entries_in (chain-there x a.spares n a.pages (new-range x w.laid) o (old-new x w.laid))

    has : (p : Pair) → any (is p) (entries_at y n) ≡ same p e.pair || any (is p) (entries_at x n)
    has p =
        any-more (is p) (entries_at x n) (entries_at y n) (same p e.pair)
        (number-here x a.spares n a.pages (new-range x w.laid) (is p) ∙ a.numbers (is p))

    -- after the put, none more is left to copy, and e has its copy
    copy-before : Before (to_copy z) (entries_at z (old_bucket z)) (k + 1)
    copy-before =
        subst (λ (v : Index). Before (to_copy v) (entries_at v (old_bucket v)) (k + 1)) (sym a.index)
        (ap (λ (es : List Entry). tally (to_copy y) (take (k + 1) es)) there
        ∙ before-next (to_copy y) (entries_at x o) k e s.inside (ap (to_copy y) s.here ∙ gone)
        (omega (arith, tally-le (to_copy y) (to_copy x) (take k (entries_at x o)) fewer, s.first)))
      where
        gone : to_copy y e ≡ false
        gone =
            ap (λ (b : Bool). moves x e && not b)
            (has e.pair ∙ ap (λ (b : Bool). b || any (is e.pair) (entries_at x n)) (same_refl e.pair))
            ∙ and-false (moves x e)

        less : (b c d : Bool) → b && not (c || d) ≡ true → b && not d ≡ true
        less true false false h = refl
        less true true d h = never (cc)
        less true false true h = never (cc)
        less false c d h = never (cc)

        fewer : (d : Entry) → to_copy y d ≡ true → to_copy x d ≡ true
        fewer d h =
            less (eqb (bucket x d.pair) n) (same d.pair e.pair) (any (is d.pair) (entries_at x n))
            (ap (λ (b : Bool). eqb (bucket x d.pair) n && not b) (sym (has d.pair)) ∙ h)

    -- its pair does not stand again behind it, where none has a copy that had none
    copy-after : After (copied x) (entries_at x (old_bucket x)) k → After (copied z) (entries_at z (old_bucket z)) (k + 1)
    copy-after f =
        subst (λ (v : Index). After (copied v) (entries_at v (old_bucket v)) (k + 1)) (sym a.index)
        (ap (λ (es : List Entry). tally (copied y) (drop (k + 1) es)) there
        ∙ ap (λ (i : ℕ). tally (copied y) (drop i (entries_at x o))) (add-one k)
        ∙ either (drop (suc k) (entries_at x o))
        (after-only (is e.pair) (entries_at x o) k e s.inside
        (ap (is e.pair) s.here ∙ same_refl e.pair) (stands-once x w e.pair o))
        (after_more (copied x) (entries_at x o) k (suc k) (omega arith) f))
      where
        one : (d : Entry) (b c : Bool) → is e.pair d ≡ b → copied x d ≡ c → b2n (copied y d) ≤ b2n b + b2n c
        one d b c i h = omega (arith, ap b2n (has d.pair ∙ ap₂ ◌||◌ (same-sym d.pair e.pair ∙ i) h), at b c)
          where
            at : (b c : Bool) → b2n (b || c) ≤ b2n b + b2n c
            at true c = omega arith
            at false c = omega arith

        either : (es : List Entry) → tally (is e.pair) es ≡ 0 → tally (copied x) es ≡ 0 → tally (copied y) es ≡ 0
        either [] p q = refl
        either (d ∷ es) p q =
            omega (arith, one d (is e.pair d) (copied x d) refl refl, either es (omega arith) (omega arith))

  pub copy-leads : x.job ≡ copying → find (to_copy x) (entries_at x (old_bucket x)) ≡ some e → (p : Position) → From x p
      → (k : ℕ) → Stands (to_copy x) (entries_at x (old_bucket x)) e k → (g : Spot) → SpotIn x g p.place
      → Leads x (record { place = k + 1; fresh = p.fresh; page = Some g })
  copy-leads j first p from k s g at y h = go (put_view x n (moved_entry e.pair)) (sym (step-copies x j first) ∙ h)
    where
      behind : p.place ≤ k
      behind =
          before-from (to_copy x) (entries_at x o) p.place k e (from.none true j) s.inside
          (ap (to_copy x) s.here ∙ (find-yes (to_copy x) (entries_at x o) e first).0)

      go : {q : Option Index} → Putting x (new_bucket x) (moved_entry e.pair) q → or_full q ≡ next y
          → From y (record { place = k + 1; fresh = p.fresh; page = Some g })
      go {q = none} v f = never (cc)
      go {q = some u} v f =
          let same : u ≡ y = cc in
          let a : PutAs x n (moved_entry e.pair) y = subst (PutAs x n (moved_entry e.pair)) same (put_as v) in
          record {
            none = λ c i. left a c i;
            fresh =
                λ i t. copy-after a k s (after_more (copied x) (entries_at x o) p.place k behind (from.fresh j t));
            page =
                marks-later
                (subst (λ (z : Index). SpotIn z g p.place) same (put-spot x w at (moved_entry e.pair) v))
                (omega (arith, behind));
          }
        where
          left : PutAs x (new_bucket x) (moved_entry e.pair) y → (c : Bool) → y.job ≡ job_of c
              → Before (movable c y) (entries_at y (old_bucket y)) (k + 1)
          left a true i = copy-before a k s
          left a false i = absurd (clearing-copying (sym i ∙ ap (λ (b : Index). b.job) a.index ∙ j))

-- ---- an entry that is cleared

-- the pages in use have all the entries
pages-in_use : (gs : List Page) → on_pages (keep in_use gs) ≡ on_pages gs
pages-in_use [] = refl
pages-in_use (g ∷ gs) = go (in_use g) refl (pages-in_use gs)
  where
    empty : (es : List Entry) → length es ≤ 0 → es ≡ []
    empty [] h = refl
    empty (e ∷ es) h = absurd (omega arith)

    go : (b : Bool) → in_use g ≡ b → on_pages (keep in_use gs) ≡ on_pages gs
        → on_pages (cond b (g ∷ keep in_use gs) (keep in_use gs)) ≡ g.entries ++ on_pages gs
    go true q ih = ap (λ (es : List Entry). g.entries ++ es) ih
    go false q ih =
        let none = empty g.entries (ltb-false 0 (length g.entries) q) in
        ih ∙ ap (λ (es : List Entry). es ++ on_pages gs) (sym none)

pages-thin : (p : Pair) (gs : List Page) → on_pages (map (thin p) gs) ≡ thin_entries p (on_pages gs)
pages-thin p [] = refl
pages-thin p (g ∷ gs) =
    ap (λ (es : List Entry). thin_entries p g.entries ++ es) (pages-thin p gs)
    ∙ sym (keep_append (λ e. not (is p e)) g.entries (on_pages gs))

-- the other entries stay, in their order
entries-without : (p : Pair) (c : Chain) → entries_in (without p c) ≡ thin_entries p (entries_in c)
entries-without p c =
    ap (λ (es : List Entry). thin_entries p c.first ++ es)
    (pages-in_use (map (thin p) c.more) ∙ pages-thin p c.more)
    ∙ sym (keep_append (λ e. not (is p e)) c.first (on_pages c.more))

-- entries taken out that pass the test stood behind the place
before-keep : (t f : Entry → Bool) → ((e : Entry) → f e ≡ false → t e ≡ true) → (es : List Entry) (k : ℕ)
    → Before t es k → Before t (keep f es) k
before-keep t f h es zero z = refl
before-keep t f h [] (suc k) z = refl
before-keep t f h (e ∷ es) (suc k) z = go (f e) refl (before-keep t f h es k) z
  where
    go : (b : Bool) → f e ≡ b → (Before t es k → Before t (keep f es) k) → b2n (t e) + tally t (take k es) ≡ 0
        → Before t (cond b (e ∷ keep f es) (keep f es)) (suc k)
    go true q ih z = omega (arith, ih (omega arith))
    go false q ih z = absurd (omega (arith, ap b2n (h e q)))

module _ (x : Index) (w : WF x) (e : Entry) where
  pub clear-leads : x.job ≡ clearing → find (moves x) (entries_at x (old_bucket x)) ≡ some e → (k : ℕ)
      → Before (moves x) (entries_at x (old_bucket x)) k → (f : Spot) (i : ℕ) → SpotIn x f i
      → (g : StdOption Spot) → IfSome g (λ s. (f.passed < k) × (s ≡ f))
      → Leads x (record { place = k; fresh = false; page = g })
  unfolding cut
  clear-leads j first k z f i at g kept y h =
      subst (λ (v : Index). From v (record { place = k; fresh = false; page = g })) made
      (record { none = go; fresh = λ q t. absurd (clearing-copying (sym j ∙ q)); page = page g kept })
    where
      p : Pair
      p = e.pair

      c : Chain
      c = without p (chain x (old_bucket x))

      u : Index
      u = set_chain x x.spares (old_bucket x) c

      made : u ≡ y
      made = let q : next u ≡ next y = sym (step-clears x j first) ∙ h in cc

      there : entries_at u (old_bucket x) ≡ thin_entries p (entries_at x (old_bucket x))
      there =
          ap entries_in (chain-here x x.spares (old_bucket x) c (old-range x w.laid))
          ∙ entries-without p (chain x (old_bucket x))

      other : (d : Entry) → not (is p d) ≡ false → moves x d ≡ true
      other d q =
          subst (λ (r : Pair). eqb (bucket x r) (new_bucket x) ≡ true) (same-eq p d.pair (not-false (is p d) q))
          (find-yes (moves x) (entries_at x (old_bucket x)) e first).0

      passes : (d : Entry) → is p d ≡ true → moves x d ≡ true
      passes d q = movable-same false x e (find-yes (moves x) (entries_at x (old_bucket x)) e first).0 d q

      page : (o : StdOption Spot) → IfSome o (λ s. (f.passed < k) × (s ≡ f)) → IfSome o (λ s. SpotIn u s k)
      page None q = tt
      page (Some s) q =
          subst (λ (b : Spot). SpotIn u b k) (sym q.1)
          (cut-spot x p w f i k at q.0
          (omega (arith, tally-le (is p) (moves x) (take k (entries_at x (old_bucket x))) passes, z)))

      go : (d : Bool) → u.job ≡ job_of d → Before (movable d u) (entries_at u (old_bucket u)) k
      go true i = absurd (clearing-copying (sym j ∙ i))
      go false i =
          ap (λ (es : List Entry). tally (moves x) (take k es)) there
          ∙ before-keep (moves x) (λ d. not (is p d)) other (entries_at x (old_bucket x)) k z
