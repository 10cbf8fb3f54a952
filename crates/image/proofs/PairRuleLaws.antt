-- Rules 5 (no pair twice in a chain) and 7 as tests of entries say of every pair what well-formedness says.
use Rattle.std.specs.Prelude.{◌≡◌, refl, ◌≢◌, Bool, true, false, not, ◌&&◌, ◌||◌, List, [], ◌∷◌, ℕ, suc, ◌+◌, ◌≤◌, ◌<◌, eqb, length}
use Rattle.std.proofs.Common.{sym, ap, ◌∙◌, subst, arith, eqb-true, eq-eqb, ne_eqb}
use Rattle.std.specs.Bool.{beq}
use Rattle.std.proofs.Math.Option.{some}
use Rattle.std.proofs.Math.Decide.{ℕ_discrete, dec_lt}
use Rattle.std.proofs.Math.ListN.{get_or-eq_default}
use Rattle.lists.specs.Lists.{b2n, any, all, tally, find, up_from}
use Rattle.lists.specs.ListsLaws.{and_left, and_right, not_yes, any-no, any-yes, zero-any, find-yes}
use Rattle.lists.specs.RunLaws.{all-get, all-put}
use Rattle.page.specs.declared.Pair.{Pair}
use Rattle.page.specs.declared.Entry.{Entry}
use Rattle.page.specs.Pair.{is}
use Rattle.page.specs.PairLaws.{same-eq, same_refl}
use Rattle.model.specs.Index.{
  no_chain,
  Job,
  idle,
  copying,
  clearing,
  Index,
  entries_in,
  entries_at,
  bucket,
  new_bucket,
  old_bucket,
}
use Rattle.model.specs.WellFormed.{unmoved_at, moved_at, Strays, PlacedIn}
use Rattle.model.proofs.HeldLaws.{is-parts, stands-none, found-stands}
use Rattle.image.specs.Rules.{distinct, placed, copied}
use Rattle.lists.specs.TestLaws.{all_none, none-fails}

-- ---- no pair twice

pub distinct-once : (p : Pair) (es : List Entry) → distinct es ≡ true → tally (is p) es ≤ 1
distinct-once p [] h = omega arith
distinct-once p (e ∷ es) h = go (is p e) refl (distinct-once p es (and_right (not (any (is e.pair) es)) _ h))
  where
    go : (b : Bool) → is p e ≡ b → tally (is p) es ≤ 1 → b2n b + tally (is p) es ≤ 1
    go false k ih = omega arith
    go true k ih =
        let q : p ≡ e.pair = same-eq p e.pair k in
        let z : tally (is e.pair) es ≡ 0 =
        any-no (is e.pair) es (not_yes (any (is e.pair) es) (and_left (not (any (is e.pair) es)) _ h)) in
        omega (arith, subst (λ (r : Pair). tally (is r) es ≡ 0) (sym q) z)

pub once-distinct : (es : List Entry) → ((p : Pair) → tally (is p) es ≤ 1) → distinct es ≡ true
once-distinct [] h = refl
once-distinct (e ∷ es) h =
    rw (zero-any (is e.pair) es (omega (arith, h e.pair, ap b2n (same_refl e.pair))))
    (once-distinct es (λ p. omega (arith, h p)))

-- ---- where an entry may stand

-- "each entry stands in its bucket, but ..": the test is the statement
strays-placed : (j : Job) (new old h b : ℕ) → placed j new old h b ≡ true → b ≢ h → Strays j new old h b
strays-placed j new old h b t ne = go j t
  where
    away : eqb h b || (eqb b old && eqb h new) ≡ true → (h ≡ new) × (b ≡ old)
    away t =
        let r : eqb b old && eqb h new ≡ true = rw (ne_eqb h b (λ e. ne (sym e))) at t in
        (eqb-true h new (and_right (eqb b old) _ r), eqb-true b old (and_left (eqb b old) _ r))

    go : (j : Job) → placed j new old h b ≡ true → Strays j new old h b
    go idle t = ne (sym (eqb-true h b t))
    go copying t = away t
    go clearing t = away t

placed-strays : (j : Job) (new old h b : ℕ) → (b ≢ h → Strays j new old h b) → placed j new old h b ≡ true
placed-strays j new old h b s = at (ℕ_discrete b h) j s
  where
    here : b ≡ h → (j : Job) → placed j new old h b ≡ true
    here e idle = eq-eqb h b (sym e)
    here e copying = rw (eq-eqb h b (sym e))
    here e clearing = rw (eq-eqb h b (sym e))

    away : b ≢ h → (h ≡ new) × (b ≡ old) → eqb h b || (eqb b old && eqb h new) ≡ true
    away ne q = rw (ne_eqb h b (λ e. ne (sym e)), eq-eqb b old q.1, eq-eqb h new q.0)

    at : Dec (b ≡ h) → (j : Job) → (b ≢ h → Strays j new old h b) → placed j new old h b ≡ true
    at (yes e) j s = here e j
    at (no ne) idle s = absurd (s ne)
    at (no ne) copying s = away ne (s ne)
    at (no ne) clearing s = away ne (s ne)

module _ (x : Index) (whole : length x.chains ≡ suc x.max_bucket) where
  abbrev new : ℕ
  new = new_bucket x

  abbrev old : ℕ
  old = old_bucket x

  abbrev may_stand : ℕ → Entry → Bool
  may_stand b e = placed x.job new old (bucket x e.pair) b

  abbrev pub DistinctAll : Type 0
  DistinctAll = all (λ b. distinct (entries_at x b)) (up_from 0 (suc x.max_bucket)) ≡ true

  abbrev pub PlacedAll : Type 0
  PlacedAll =
      all (λ b. all (λ e. placed x.job (new_bucket x) (old_bucket x) (bucket x e.pair) b) (entries_at x b))
      (up_from 0 (suc x.max_bucket)) ≡ true

  abbrev pub CopiedAll : Type 0
  CopiedAll = copied x.job (entries_at x (new_bucket x)) (entries_at x (old_bucket x)) ≡ true

  -- ---- from the tests

  module _ (r5 : DistinctAll) (r7 : PlacedAll) (rc : CopiedAll) (p : Pair) where
    outside : (b : ℕ) → suc x.max_bucket ≤ b → entries_at x b ≡ []
    outside b h = ap entries_in (get_or-eq_default x.chains no_chain {n = b} (omega arith))

    once : (b : ℕ) → unmoved_at x p b + moved_at x p b ≤ 1
    once b = go (dec_lt b (suc x.max_bucket))
      where
        go : Dec (b < suc x.max_bucket) → unmoved_at x p b + moved_at x p b ≤ 1
        go (yes h) =
            omega (
              arith,
              is-parts p (entries_at x b),
              distinct-once p (entries_at x b)
                  (all-get (λ b. distinct (entries_at x b)) 0 (suc x.max_bucket) r5 b (omega arith) (omega arith)),
            )
        go (no h) = omega (arith, is-parts p (entries_at x b), ap (tally (is p)) (outside b (omega arith)))

    home : (b : ℕ) → 1 ≤ unmoved_at x p b + moved_at x p b → b ≢ bucket x p → Strays x.job new old (bucket x p) b
    home b st = strays-placed x.job new old (bucket x p) b (go (dec_lt b (suc x.max_bucket)))
      where
        go : Dec (b < suc x.max_bucket) → placed x.job new old (bucket x p) b ≡ true
        go (no h) = absurd (omega (arith, is-parts p (entries_at x b), ap (tally (is p)) (outside b (omega arith))))
        go (yes h) = at (placed x.job new old (bucket x p) b) refl
          where
            each : all (may_stand b) (entries_at x b) ≡ true
            each =
                let t : ℕ → Bool = λ b. all (may_stand b) (entries_at x b) in
                all-get t 0 (suc x.max_bucket) r7 b (omega arith) (omega arith)

            at : (c : Bool) → placed x.job new old (bucket x p) b ≡ c
                → placed x.job new old (bucket x p) b ≡ true
            at true e = e
            at false e =
                let wrong : (f : Entry) → is p f ≡ true → may_stand b f ≡ false =
                λ f i. ap (λ (q : Pair). placed x.job new old (bucket x q) b) (sym (same-eq p f.pair i)) ∙ e in
                let z = all_none (may_stand b) (is p) (entries_at x b) each wrong in
                absurd (omega (arith, is-parts p (entries_at x b), z))

    record Copies : Type 0 where
      copied : moved_at x p new ≤ unmoved_at x p old + moved_at x p old
      fresh : unmoved_at x p new + (unmoved_at x p old + moved_at x p old) ≤ 1

    copies : x.job ≡ copying → Copies
    copies j = go (any (is p) (entries_at x old)) refl
      where
        marked : Entry → Bool
        marked e = beq e.moved (any (is e.pair) (entries_at x old))

        each : all marked (entries_at x new) ≡ true
        each = subst (λ (k : Job). copied k (entries_at x new) (entries_at x old) ≡ true) j rc

        wrong : (c : Bool) → any (is p) (entries_at x old) ≡ c → (e : Entry) → is p e ≡ true → e.moved ≡ not c
            → marked e ≡ false
        wrong c k e i v = rw (v, ← same-eq p e.pair i, k) (neg c)
          where
            neg : (c : Bool) → beq (not c) c ≡ false
            neg true = refl
            neg false = refl

        go : (c : Bool) → any (is p) (entries_at x old) ≡ c → Copies
        go true k =
            let z = all_none marked (λ e. is p e && not e.moved) (entries_at x new) each
            (λ e h. wrong true k e (and_left (is p e) _ h) (not_yes e.moved (and_right (is p e) _ h))) in
            record {
              copied = omega (arith, any-yes (is p) (entries_at x old) k, is-parts p (entries_at x old), once new);
              fresh = omega (arith, z, once old);
            }
        go false k =
            let z = all_none marked (λ e. is p e && e.moved) (entries_at x new) each
            (λ e h. wrong false k e (and_left (is p e) _ h) (and_right (is p e) _ h)) in
            record { copied = omega (arith, z); fresh = omega (arith, stands-none x p old k, once new) }

    pub rules-placed : PlacedIn x p
    rules-placed = record { once = once; home = home; copied = λ j. (copies j).copied; fresh = λ j. (copies j).fresh }

  -- ---- to the tests

  module _ (ok : (p : Pair) → PlacedIn x p) where
    pub placed-distinct : DistinctAll
    placed-distinct =
        all-put _ 0 (suc x.max_bucket) (λ b l g.
        once-distinct (entries_at x b) (λ p. omega (arith, is-parts p (entries_at x b), (ok p).once b)))

    pub placed-all : PlacedAll
    placed-all =
        all-put _ 0 (suc x.max_bucket) (λ b l g.
        none-fails (may_stand b) (entries_at x b) (λ e f.
        placed-strays x.job new old (bucket x e.pair) b ((ok e.pair).home b (found-stands x _ b e f))))

    pub placed-copied : CopiedAll
    placed-copied = go x.job refl
      where
        go : (j : Job) → x.job ≡ j → copied j (entries_at x new) (entries_at x old) ≡ true
        go idle e = refl
        go clearing e = refl
        go copying e =
            none-fails marked (entries_at x new)
            (λ f h. at f h f.moved (any (is f.pair) (entries_at x old)) refl refl)
          where
            marked : Entry → Bool
            marked f = beq f.moved (any (is f.pair) (entries_at x old))

            at : (f : Entry) → find (λ g. not (marked g)) (entries_at x new) ≡ some f → (c d : Bool) → f.moved ≡ c
                → any (is f.pair) (entries_at x old) ≡ d → marked f ≡ true
            at f h true true i k = rw (i, k)
            at f h false false i k = rw (i, k)
            at f h true false i k =
                let c : b2n (is f.pair f && f.moved) ≡ 1 = rw (same_refl f.pair, i) in
                absurd (omega (
                  arith,
                  (find-yes _ (entries_at x new) f h).1 (λ e. is f.pair e && e.moved),
                  c,
                  (ok f.pair).copied e,
                  stands-none x f.pair old k,
                ))
            at f h false true i k =
                let c : b2n (is f.pair f && not f.moved) ≡ 1 = rw (same_refl f.pair, i) in
                absurd (omega (
                  arith,
                  (find-yes _ (entries_at x new) f h).1 (λ e. is f.pair e && not e.moved),
                  c,
                  (ok f.pair).fresh e,
                  any-yes (is f.pair) (entries_at x old) k,
                  is-parts f.pair (entries_at x old),
                ))
