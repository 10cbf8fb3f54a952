-- What each change does to one pair, in numbers alone: it stands by the rules, and is held as often as it should be.
-- The pair's bucket is h, and it stands u b times unmoved and m b times moved in the chain of bucket b.
use Rattle.std.specs.Prelude.{◌≡◌, refl, ◌≢◌, ℕ, zero, suc, ◌+◌, ◌≤◌}
use Rattle.std.proofs.Common.{sym, ap, ◌∙◌, subst, subst₂, arith}
use Rattle.std.proofs.Math.Path.{fun_ext}
use Rattle.std.proofs.Math.Decide.{ℕ_discrete}
use Rattle.lists.specs.ListsLaws.{eqb_yes, eqb_no}
use Rattle.model.specs.Index.{Job, idle, copying, clearing}
use Rattle.model.specs.WellFormed.{Strays, Placed}
use Rattle.model.specs.HeldIn.{held_no}

-- copying, at the new bucket and elsewhere
pub held_new : (n o h : ℕ) (u m : ℕ → ℕ) → h ≡ n → held_no copying n o h u m ≡ u n + (u o + m o)
held_new n o h u m e = rw (eqb_yes h n e)

pub held-else : (n o h : ℕ) (u m : ℕ → ℕ) → h ≢ n → held_no copying n o h u m ≡ u h + m h
held-else n o h u m e = rw (eqb_no h n e)

module _ (n o h : ℕ) (u m : ℕ → ℕ) where
  zero-not : (k : ℕ) → (1 ≤ k → ⊥) → k ≡ 0
  zero-not zero f = refl
  zero-not (suc k) f = absurd (f (omega arith))

  -- a pair of another bucket than the new one stands nowhere but there
  pub placed-away : (j : Job) → Placed j n o h u m → h ≢ n → (b : ℕ) → b ≢ h → u b + m b ≡ 0
  placed-away idle s e b f = zero-not (u b + m b) (λ l. s.home b l f)
  placed-away copying s e b f = zero-not (u b + m b) (λ l. e (s.home b l f).0)
  placed-away clearing s e b f = zero-not (u b + m b) (λ l. e (s.home b l f).0)

  -- and any pair nowhere but there and in the old bucket
  pub placed-astray : (j : Job) → Placed j n o h u m → (b : ℕ) → b ≢ h → b ≢ o → u b + m b ≡ 0
  placed-astray idle s b f g = zero-not (u b + m b) (λ l. s.home b l f)
  placed-astray copying s b f g = zero-not (u b + m b) (λ l. g (s.home b l f).1)
  placed-astray clearing s b f g = zero-not (u b + m b) (λ l. g (s.home b l f).1)

  pub placed-idle : Placed idle n o h u m → (b : ℕ) → b ≢ h → u b + m b ≡ 0
  placed-idle s b f = zero-not (u b + m b) (λ l. s.home b l f)

  -- a pair is held once or not at all
  pub held-le : (j : Job) → Placed j n o h u m → held_no j n o h u m ≤ 1
  held-le idle s = s.once h
  held-le clearing s = s.once h
  held-le copying s = go (ℕ_discrete h n)
    where
      go : Dec (h ≡ n) → held_no copying n o h u m ≤ 1
      go (yes e) = rw (held_new n o h u m e) (s.fresh refl)
      go (no e) = rw (held-else n o h u m e) (s.once h)

  -- a pair that is not held does not stand in its bucket
  pub held-zero : (j : Job) → Placed j n o h u m → held_no j n o h u m ≡ 0 → u h + m h ≡ 0
  held-zero idle s z = z
  held-zero clearing s z = z
  held-zero copying s z = go (ℕ_discrete h n)
    where
      go : Dec (h ≡ n) → u h + m h ≡ 0
      go (yes e) = rw e (omega (arith, s.copied refl, sym (held_new n o h u m e) ∙ z))
      go (no e) = sym (held-else n o h u m e) ∙ z

-- After a change of one pair: where it stands keeps the rules, and it is held k times.
pub record Turned (j : Job) (n o h : ℕ) (u m : ℕ → ℕ) (k : ℕ) : Type 0 where
  pub placed : Placed j n o h u m
  pub number : held_no j n o h u m ≡ k

-- numbers that are the same everywhere
pub turned_same : (j : Job) (n o h : ℕ) (u m u' m' : ℕ → ℕ) (k : ℕ) → Turned j n o h u m k
    → ((b : ℕ) → u' b ≡ u b) → ((b : ℕ) → m' b ≡ m b) → Turned j n o h u' m' k
turned_same j n o h u m u' m' k t eu em =
    subst₂ (λ (f g : ℕ → ℕ). Turned j n o h f g k) (sym (fun_ext eu)) (sym (fun_ext em)) t

-- a job that is known
pub turned-at : {j k : Job} (n o h : ℕ) (u m u' m' : ℕ → ℕ) → j ≡ k → Turned k n o h u' m' (held_no k n o h u m)
    → Turned j n o h u' m' (held_no j n o h u m)
turned-at n o h u m u' m' e t = subst (λ (i : Job). Turned i n o h u' m' (held_no i n o h u m)) (sym e) t

not-copying : {A : Type 0} {j : Job} → j ≡ copying → j ≢ copying → A
not-copying e f = absurd (f e)

pub idle-copying : idle ≢ copying
idle-copying e = let z : ◌≡◌ {A = ℕ} 0 1 = cc in omega arith

pub clearing-copying : clearing ≢ copying
clearing-copying e = let z : ◌≡◌ {A = ℕ} 0 1 = cc in omega arith

-- ---- an insert of a pair that is not held

module _ (n o h : ℕ) (apart : o ≢ n) (u m u' m' : ℕ → ℕ) where
  pub insert-placed : (j : Job) → Placed j n o h u m → held_no j n o h u m ≡ 0
      → u' h ≡ suc (u h) → ((b : ℕ) → b ≢ h → u' b ≡ u b) → ((b : ℕ) → m' b ≡ m b) → Turned j n o h u' m' 1
  insert-placed j s z here there same = record { placed = placed; number = number j s z }
    where
      none : u h + m h ≡ 0
      none = held-zero n o h u m j s z

      once : (b : ℕ) → u' b + m' b ≤ 1
      once b = at (ℕ_discrete b h)
        where
          at : Dec (b ≡ h) → u' b + m' b ≤ 1
          at (yes e) = rw e (omega (arith, same h, none))
          at (no e) = omega (arith, same b, there b e, s.once b)

      more : (b : ℕ) → u b ≤ u' b
      more b = at (ℕ_discrete b h)
        where
          at : Dec (b ≡ h) → u b ≤ u' b
          at (yes e) = rw e (omega arith)
          at (no e) = omega (arith, there b e)

      -- the new bucket's pair: it stood in neither chain
      new : (j : Job) → j ≡ copying → held_no j n o h u m ≡ 0 → h ≡ n → u' n + (u' o + m' o) ≡ 1
      new idle c z e = not-copying c idle-copying
      new clearing c z e = not-copying c clearing-copying
      new copying c z e =
          let z' : u n + (u o + m o) ≡ 0 = sym (held_new n o h u m e) ∙ z in
          let k : u' n ≡ suc (u n) = rw e at here in
          omega (arith, same o, there o (λ f. apart (f ∙ e)))

      fresh : j ≡ copying → u' n + (u' o + m' o) ≤ 1
      fresh c = at (ℕ_discrete h n)
        where
          at : Dec (h ≡ n) → u' n + (u' o + m' o) ≤ 1
          at (yes e) = omega (arith, new j c z e)
          at (no e) =
              let ne : n ≢ h = λ f. e (sym f) in
              omega (arith, once o, there n ne, placed-away n o h u m j s e n ne)

      placed : Placed j n o h u' m'
      placed =
          record {
            once = once;
            home = λ b l f. s.home b (omega (arith, same b, there b f)) f;
            copied = λ c. omega (arith, s.copied c, same n, same o, more o);
            fresh = fresh;
          }

      number : (j : Job) → Placed j n o h u m → held_no j n o h u m ≡ 0 → held_no j n o h u' m' ≡ 1
      number idle s z = omega (arith, same h)
      number clearing s z = omega (arith, same h)
      number copying s z = at (ℕ_discrete h n)
        where
          at : Dec (h ≡ n) → held_no copying n o h u' m' ≡ 1
          at (yes e) = held_new n o h u' m' e ∙ new copying refl z e
          at (no e) = held-else n o h u' m' e ∙ omega (arith, same h, sym (held-else n o h u m e) ∙ z)

  -- ---- a removal: nothing more anywhere, and nothing in the pair's bucket

  pub remove-placed : (j : Job) → Placed j n o h u m → ((b : ℕ) → u' b ≤ u b) → ((b : ℕ) → m' b ≤ m b)
      → u' h + m' h ≡ 0
      → (j ≡ copying → h ≡ n → u' o + m' o ≡ 0) → Turned j n o h u' m' 0
  remove-placed j s lu lm z g = record { placed = placed; number = number j g }
    where
      copied : j ≡ copying → m' n ≤ u' o + m' o
      copied c = at (ℕ_discrete h n)
        where
          at : Dec (h ≡ n) → m' n ≤ u' o + m' o
          at (yes e) = let k : u' n + m' n ≡ 0 = rw e at z in omega arith
          at (no e) = omega (arith, lm n, placed-away n o h u m j s e n (λ f. e (sym f)))

      placed : Placed j n o h u' m'
      placed =
          record {
            once = λ b. omega (arith, lu b, lm b, s.once b);
            home = λ b l f. s.home b (omega (arith, lu b, lm b)) f;
            copied = copied;
            fresh = λ c. omega (arith, lu n, lu o, lm o, s.fresh c);
          }

      number : (j : Job) → (j ≡ copying → h ≡ n → u' o + m' o ≡ 0) → held_no j n o h u' m' ≡ 0
      number idle g = z
      number clearing g = z
      number copying g = at (ℕ_discrete h n)
        where
          at : Dec (h ≡ n) → held_no copying n o h u' m' ≡ 0
          at (yes e) = held_new n o h u' m' e ∙ (let k : u' n + m' n ≡ 0 = rw e at z in omega (arith, g refl e))
          at (no e) = held-else n o h u' m' e ∙ z

  -- ---- a copy to the new bucket

  pub copy-placed : Placed copying n o h u m → h ≡ n → 1 ≤ u o + m o → u n + m n ≡ 0
      → ((b : ℕ) → u' b ≡ u b) → m' n ≡ suc (m n) → ((b : ℕ) → b ≢ n → m' b ≡ m b)
      → Turned copying n o h u' m' (held_no copying n o h u m)
  copy-placed s e p z same here there =
      record {
        placed = record {
          once = λ b. once b (ℕ_discrete b n);
          home = λ b l f. s.home b (omega (arith, same b, there b (λ k. f (k ∙ sym e)))) f;
          copied = λ c. omega (arith, same o, there o apart);
          fresh = λ c. omega (arith, same n, same o, there o apart, s.fresh c);
        };
        number = held_new n o h u' m' e ∙ omega (arith, same n, same o, there o apart) ∙ sym (held_new n o h u m e);
      }
    where
      once : (b : ℕ) → Dec (b ≡ n) → u' b + m' b ≤ 1
      once b (yes f) = rw f (omega (arith, same n))
      once b (no f) = omega (arith, same b, there b f, s.once b)

  -- ---- an old entry taken away

  pub clear-placed : Placed clearing n o h u m → ((b : ℕ) → u' b ≤ u b) → ((b : ℕ) → m' b ≤ m b)
      → u' h ≡ u h → m' h ≡ m h → Turned clearing n o h u' m' (u h + m h)
  clear-placed s lu lm eu em =
      record {
        placed = record {
          once = λ b. omega (arith, lu b, lm b, s.once b);
          home = λ b l f. s.home b (omega (arith, lu b, lm b)) f;
          copied = λ c. not-copying c clearing-copying;
          fresh = λ c. not-copying c clearing-copying;
        };
        number = omega arith;
      }

-- ---- the steps that change no entry

module _ (n o h : ℕ) (u m : ℕ → ℕ) where
  -- a begin: the pair's bucket was h₀
  pub begin-placed : (n₀ o₀ h₀ : ℕ) → Placed idle n₀ o₀ h₀ u m → n ≢ h₀ → (h ≢ n → h ≡ h₀) → (h ≡ n → h₀ ≡ o)
      → Turned copying n o h u m (u h₀ + m h₀)
  begin-placed n₀ o₀ h₀ s new stay go =
      record {
        placed = record {
          once = s.once;
          home = λ b l f. home b l f (ℕ_discrete h n);
          copied = λ c. omega (arith, none);
          fresh = λ c. omega (arith, none, s.once o);
        };
        number = number (ℕ_discrete h n);
      }
    where
      none : u n + m n ≡ 0
      none = placed-idle n₀ o₀ h₀ u m s n new

      home : (b : ℕ) → 1 ≤ u b + m b → b ≢ h → Dec (h ≡ n) → Strays copying n o h b
      home b l f (no e) = absurd (s.home b l (λ k. f (k ∙ sym (stay e))))
      home b l f (yes e) = at (ℕ_discrete b h₀)
        where
          at : Dec (b ≡ h₀) → Strays copying n o h b
          at (yes k) = (e, k ∙ go e)
          at (no k) = absurd (s.home b l k)

      number : Dec (h ≡ n) → held_no copying n o h u m ≡ u h₀ + m h₀
      number (yes e) = held_new n o h u m e ∙ rw (go e) (omega (arith, none))
      number (no e) = held-else n o h u m e ∙ rw (stay e) refl

  -- the end of copying: every old entry of the new bucket has its copy, or stands there
  pub copied_placed : Placed copying n o h u m → (h ≡ n → u n + m n ≡ 0 → u o + m o ≡ 0)
      → Turned clearing n o h u m (held_no copying n o h u m)
  copied_placed s all =
      record {
        placed = record {
          once = s.once;
          home = s.home;
          copied = λ c. not-copying c clearing-copying;
          fresh = λ c. not-copying c clearing-copying;
        };
        number = at (ℕ_discrete h n);
      }
    where
      at : Dec (h ≡ n) → u h + m h ≡ held_no copying n o h u m
      at (no e) = sym (held-else n o h u m e)
      at (yes e) = rw (held_new n o h u m e) (rw e (num (u n + m n) refl))
        where
          num : (k : ℕ) → u n + m n ≡ k → u n + m n ≡ u n + (u o + m o)
          num zero z = omega (arith, all e z)
          num (suc k) z = omega (arith, s.copied refl, s.fresh refl, s.once n, s.once o)

  -- the end of clearing: no old entry of the new bucket is left
  pub cleared-placed : Placed clearing n o h u m → (h ≡ n → u o + m o ≡ 0) → Turned idle n o h u m (u h + m h)
  cleared-placed s none =
      record {
        placed = record {
          once = s.once;
          home = λ b l f. let k = s.home b l f in omega (arith, none k.0, ap (λ (d : ℕ). u d + m d) k.1);
          copied = λ c. not-copying c idle-copying;
          fresh = λ c. not-copying c idle-copying;
        };
        number = refl;
      }
