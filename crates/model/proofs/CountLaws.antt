-- The live entries of a well-formed index are its held pairs, each once: `count` counts the held pairs.
use Rattle.std.specs.Prelude.{◌≡◌, refl, ◌≢◌, Bool, true, false, cond, not, ◌&&◌, List, map, ℕ, zero, suc, ◌+◌, ◌<◌, eqb, length}
use Rattle.std.proofs.Math.Path.{sym, ap}
use Rattle.std.proofs.Common.{◌∙◌, arith}
use Rattle.std.proofs.Math.Decide.{ℕ_discrete}
use Rattle.std.proofs.lemmas.List.{length-map}
use Rattle.lists.specs.Lists.{b2n, any, tally, keep, bind, up_from}
use Rattle.lists.specs.ListsLaws.{eqb_yes, eqb_no, tally-keep, tally-cong, tally-map}
use Rattle.page.specs.declared.Pair.{Pair}
use Rattle.page.specs.declared.Entry.{Entry}
use Rattle.page.specs.Pair.{same, is, ascending, pair_of}
use Rattle.model.specs.Index.{Job, idle, copying, clearing, Index, entries_at, bucket, new_bucket, old_bucket}
use Rattle.model.specs.Held.{self, held, sorted, lives_in, live, count}
use Rattle.model.specs.WellFormed.{unmoved_at, moved_at, Placed, WF}
use Rattle.model.specs.TallyLaws.{and_comm, b2n-le, tally-any, bind-one}
use Rattle.model.specs.HeldIn.{held_no, held_in}
use Rattle.model.specs.PlacedLaws.{held_new, held-else, placed-away, placed-astray, placed-idle}
use Rattle.model.proofs.HeldLaws.{old-new, home-range, old-range, is-parts, held_in-held}
use Rattle.model.specs.SortedLaws.{tally-sorted, ascending-sorted, length-is, tally-keep-pair}

-- ---- what a bucket's live entries have of a pair, by job

module _ (x : Index) (p : Pair) where
  abbrev part : Job → ℕ → List Entry
  part j b = keep (lives_in j x b) (entries_at x b)

  live-idle : (b : ℕ) → tally (is p) (part idle b) ≡ unmoved_at x p b + moved_at x p b
  live-idle b = tally-keep (is p) (lives_in idle x b) (entries_at x b) ∙ is-parts p (entries_at x b)

  live-clearing : (b : ℕ)
      → tally (is p) (part clearing b) ≡ cond (eqb (bucket x p) b) (unmoved_at x p b + moved_at x p b) 0
  live-clearing b =
      tally-keep-pair pair_of (λ q. eqb (bucket x q) b) p (entries_at x b)
      ∙ ap (λ (k : ℕ). cond (eqb (bucket x p) b) k 0) (is-parts p (entries_at x b))

  live-copying : (b : ℕ)
      → tally (is p) (part copying b) ≡ cond (eqb b (new_bucket x)) (unmoved_at x p b) (unmoved_at x p b + moved_at x p b)
  live-copying b = tally-keep (is p) (lives_in copying x b) (entries_at x b) ∙ go (eqb b (new_bucket x))
    where
      go : (c : Bool) → tally (λ e. not (c && e.moved) && is p e) (entries_at x b)
          ≡ cond c (unmoved_at x p b) (unmoved_at x p b + moved_at x p b)
      go true = tally-cong _ _ (entries_at x b) (λ e. and_comm (not e.moved) (is p e))
      go false = is-parts p (entries_at x b)

pub live-number : (x : Index) → WF x → (p : Pair) → tally (is p) (live x) ≡ held_in x p
unfolding held_in
live-number x w p = go x.job (w.placed p)
  where
    n : ℕ
    n = new_bucket x

    o : ℕ
    o = old_bucket x

    h : ℕ
    h = bucket x p

    u : ℕ → ℕ
    u = unmoved_at x p

    m : ℕ → ℕ
    m = moved_at x p

    -- all live entries of the pair stand in bucket b
    only : (j : Job) (b : ℕ) → b < length x.chains → ((d : ℕ) → d ≢ b → tally (is p) (part x p j d) ≡ 0)
        → tally (is p) (bind (up_from 0 (length x.chains)) (part x p j)) ≡ tally (is p) (part x p j b)
    only j b l z = bind-one (is p) (part x p j) b 0 (length x.chains) (omega arith) (omega arith) z

    at_new : tally (is p) (part x p copying n) ≡ u n
    at_new = live-copying x p n ∙ rw (eqb_yes n n refl) refl

    at-else : (b : ℕ) → b ≢ n → tally (is p) (part x p copying b) ≡ u b + m b
    at-else b e = live-copying x p b ∙ rw (eqb_no b n e) refl

    -- copying, the pair's bucket not the new one
    other : Placed copying n o h u m → h ≢ n → (b : ℕ) → b ≢ h → Dec (b ≡ n) → tally (is p) (part x p copying b) ≡ 0
    other s e b f (yes k) = rw k (at_new ∙ omega (arith, placed-away n o h u m copying s e n (λ r. e (sym r))))
    other s e b f (no k) = at-else b k ∙ placed-away n o h u m copying s e b f

    -- copying, the pair's bucket the new one: its entry stands in the old chain, or not
    old : Placed copying n o h u m → h ≡ n → (k : ℕ) → u o + m o ≡ k
        → tally (is p) (bind (up_from 0 (length x.chains)) (part x p copying)) ≡ u n + (u o + m o)
    old s e zero z =
        only copying n (rw e at (home-range x w.laid p)) (λ b f. away b f (ℕ_discrete b o)) ∙ at_new ∙ omega arith
      where
        away : (b : ℕ) → b ≢ n → Dec (b ≡ o) → tally (is p) (part x p copying b) ≡ 0
        away b f (yes k) = at-else b f ∙ rw k z
        away b f (no k) = at-else b f ∙ placed-astray n o h u m copying s b (λ r. f (r ∙ e)) k
    old s e (suc k) z =
        only copying o (old-range x w.laid) (λ b f. away b f (ℕ_discrete b n))
        ∙ at-else o (old-new x w.laid)
        ∙ omega (arith, none)
      where
        none : u n ≡ 0
        none = omega (arith, s.fresh refl)

        away : (b : ℕ) → b ≢ o → Dec (b ≡ n) → tally (is p) (part x p copying b) ≡ 0
        away b f (yes k) = rw k (at_new ∙ none)
        away b f (no k) = at-else b k ∙ placed-astray n o h u m copying s b (λ r. k (r ∙ e)) f

    go : (j : Job) → Placed j n o h u m
        → tally (is p) (bind (up_from 0 (length x.chains)) (part x p j)) ≡ held_no j n o h u m
    go idle s =
        only idle h (home-range x w.laid p) (λ b f. live-idle x p b ∙ placed-idle n o h u m s b f) ∙ live-idle x p h
    go clearing s =
        only clearing h (home-range x w.laid p) (λ b f. live-clearing x p b ∙ rw (eqb_no h b (λ r. f (sym r))) refl)
        ∙ live-clearing x p h
        ∙ rw (eqb_yes h h refl) refl
    go copying s = at (ℕ_discrete h n)
      where
        at : Dec (h ≡ n)
            → tally (is p) (bind (up_from 0 (length x.chains)) (part x p copying)) ≡ held_no copying n o h u m
        at (yes e) = old s e (u o + m o) refl ∙ sym (held_new n o h u m e)
        at (no e) =
            only copying h (home-range x w.laid p) (λ b f. other s e b f (ℕ_discrete b n))
            ∙ at-else h e
            ∙ sym (held-else n o h u m e)

-- ---- the held pairs

-- as an ascending list
abbrev pub held_pairs : Index → List Pair
held_pairs x = sorted (map pair_of (live x))

module _ (x : Index) (w : WF x) where
  tally-live : (p : Pair) → tally (same p) (map pair_of (live x)) ≡ b2n (held x p)
  tally-live p = tally-map pair_of (same p) (live x) ∙ live-number x w p ∙ held_in-held x w p

  pub held_pairs-ascending : ascending self (held_pairs x) ≡ true
  held_pairs-ascending =
      ascending-sorted (map pair_of (live x)) (λ p. omega (arith, tally-live p, b2n-le (held x p)))

  pub held_pairs-has : (p : Pair) → any (same p) (held_pairs x) ≡ held x p
  held_pairs-has p =
      tally-any (same p) (held_pairs x) (held x p) (tally-sorted (same p) (map pair_of (live x)) ∙ tally-live p)

  -- the count is the length of any ascending list of the held pairs
  pub count-is : (ps : List Pair) → ascending self ps ≡ true → ((p : Pair) → any (same p) ps ≡ held x p)
      → count x ≡ length ps
  unfolding count
  count-is ps a e =
      sym (length-map (live x) pair_of)
      ∙ length-is (map pair_of (live x)) ps a (λ p. tally-live p ∙ ap b2n (sym (e p)))
