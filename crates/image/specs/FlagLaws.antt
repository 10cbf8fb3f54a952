-- The flags that rule 3 allows on bucket pages are those of a job: none, copying or clearing.
use Rattle.std.specs.Prelude.{◌≡◌, refl, ◌≢◌, Bool, true, false, ◌&&◌, ◌||◌, ℕ, eqb}
use Rattle.std.proofs.Common.{sym, ap, ap₂, ◌∙◌, eqb-true, eq-eqb, ne_eqb}
use Rattle.std.specs.Bool.{beq}
use Rattle.std.proofs.Math.Decide.{ℕ_discrete}
use Rattle.lists.specs.ListsLaws.{and_left, and_right}
use Rattle.address.specs.Address.{split_from}
use Rattle.page.specs.PairLaws.{no_way}
use Rattle.model.specs.Index.{Job, idle, copying, clearing}
use Rattle.image.specs.Layout.{flags_in}
use Rattle.image.specs.Decode.{job_from}
use Rattle.image.specs.Rules.{bucket_flags_ok}

-- what the test of one page's flags f says, of bucket b
data Flags (max b f : ℕ) : Type 0 where
  plain : f ≡ 2 → Flags max b f
  populated : b ≡ max → f ≡ 18 → Flags max b f
  split : b ≡ split_from max → f ≡ 34 → Flags max b f
  cleanup : b ≡ split_from max → f ≡ 66 → Flags max b f

or_cases : {P : Type 0} (a b : Bool) → a || b ≡ true → (a ≡ true → P) → (b ≡ true → P) → P
or_cases true b h f g = f refl
or_cases false b h f g = g h

flags-view : (max b f : ℕ) → bucket_flags_ok max b f ≡ true → Flags max b f
flags-view max b f h =
    or_cases (eqb f 2) _ h (λ e. plain (eqb-true f 2 e)) (λ r.
    or_cases (eqb b max && eqb f 18) _ r
    (λ e. populated (eqb-true b max (and_left (eqb b max) _ e)) (eqb-true f 18 (and_right (eqb b max) _ e)))
    (λ e.
    let o : b ≡ split_from max = eqb-true b (split_from max) (and_left (eqb b (split_from max)) _ e) in
    or_cases (eqb f 34) (eqb f 66) (and_right (eqb b (split_from max)) _ e)
    (λ k. split o (eqb-true f 34 k)) (λ k. cleanup o (eqb-true f 66 k))))

-- the flags of the max bucket and of the bucket that it split off from
data JobFlags (new old : ℕ) : Type 0 where
  as_idle : new ≡ 2 → old ≡ 2 → JobFlags new old
  as_copying : new ≡ 18 → old ≡ 34 → JobFlags new old
  as_clearing : new ≡ 2 → old ≡ 66 → JobFlags new old

module _ (max new old : ℕ) (apart : split_from max ≢ max) (hn : bucket_flags_ok max max new ≡ true)
    (ho : bucket_flags_ok max (split_from max) old ≡ true) (both : beq (eqb new 18) (eqb old 34) ≡ true) where
  job-flags : JobFlags new old
  job-flags = go (flags-view max max new hn) (flags-view max (split_from max) old ho)
    where
      pair : (n o : ℕ) → new ≡ n → old ≡ o → beq (eqb n 18) (eqb o 34) ≡ true
      pair n o p q = ap₂ (λ (a b : ℕ). beq (eqb a 18) (eqb b 34)) (sym p) (sym q) ∙ both

      go : Flags max max new → Flags max (split_from max) old → JobFlags new old
      go (split e p) v = absurd (apart (sym e))
      go (cleanup e p) v = absurd (apart (sym e))
      go (plain p) (populated e q) = absurd (apart e)
      go (plain p) (plain q) = as_idle p q
      go (plain p) (split e q) = no_way (pair 2 34 p q) refl
      go (plain p) (cleanup e q) = as_clearing p q
      go (populated e p) (populated f q) = absurd (apart f)
      go (populated e p) (plain q) = no_way (pair 18 2 p q) refl
      go (populated e p) (split f q) = as_copying p q
      go (populated e p) (cleanup f q) = no_way (pair 18 66 p q) refl

  -- each page has the flags of the job that the two pages tell
  pub flags-job : (b f : ℕ) → bucket_flags_ok max b f ≡ true → (b ≡ max → f ≡ new) → (b ≡ split_from max → f ≡ old)
      → f ≡ flags_in (job_from new old) max (split_from max) b
  flags-job b f h fn fo = go job-flags (ℕ_discrete b max) (ℕ_discrete b (split_from max))
    where
      other : b ≢ max → b ≢ split_from max → f ≡ 2
      other p q = at (flags-view max b f h)
        where
          at : Flags max b f → f ≡ 2
          at (plain e) = e
          at (populated e k) = absurd (p e)
          at (split e k) = absurd (q e)
          at (cleanup e k) = absurd (q e)

      job : (n o : ℕ) → new ≡ n → old ≡ o → job_from new old ≡ job_from n o
      job n o p q = ap₂ job_from p q

      to : (j : Job) → job_from new old ≡ j → f ≡ flags_in j max (split_from max) b
          → f ≡ flags_in (job_from new old) max (split_from max) b
      to j e k = k ∙ ap (λ (i : Job). flags_in i max (split_from max) b) (sym e)

      go : JobFlags new old → Dec (b ≡ max) → Dec (b ≡ split_from max)
          → f ≡ flags_in (job_from new old) max (split_from max) b
      go (as_idle p q) (yes e) d = to idle (job 2 2 p q) (fn e ∙ p)
      go (as_idle p q) (no e) (yes k) = to idle (job 2 2 p q) (fo k ∙ q)
      go (as_idle p q) (no e) (no k) = to idle (job 2 2 p q) (other e k)
      go (as_copying p q) (yes e) d = to copying (job 18 34 p q) (rw (eq-eqb b max e) (fn e ∙ p))
      go (as_copying p q) (no e) (yes k) =
          to copying (job 18 34 p q) (rw (ne_eqb b max e, eq-eqb b (split_from max) k) (fo k ∙ q))
      go (as_copying p q) (no e) (no k) =
          to copying (job 18 34 p q) (rw (ne_eqb b max e, ne_eqb b (split_from max) k) (other e k))
      go (as_clearing p q) (yes e) (yes k) = absurd (apart (sym k ∙ e))
      go (as_clearing p q) (no e) (yes k) = to clearing (job 2 66 p q) (rw (eq-eqb b (split_from max) k) (fo k ∙ q))
      go (as_clearing p q) (yes e) (no k) = to clearing (job 2 66 p q) (rw (ne_eqb b (split_from max) k) (fn e ∙ p))
      go (as_clearing p q) (no e) (no k) = to clearing (job 2 66 p q) (rw (ne_eqb b (split_from max) k) (other e k))
