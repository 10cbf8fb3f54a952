-- Where a hash code goes when max bucket grows by one: it keeps its bucket, or goes from the bucket that splits to the new one.
use Rattle.std.specs.Prelude.{◌≡◌, refl, ◌≢◌, Bool, true, false, cond, ℕ, suc, pred, ◌-◌, ◌*◌, ◌%◌, ◌^◌, ◌≤◌, ◌<◌, leb}
use Rattle.std.proofs.Common.{sym, ap, ◌∙◌, mod-lt, mod-eq_of_lt, one-add, arith, leb→le, pow_pos}
use Rattle.std.proofs.Math.Nat.{mod-eq-sub-mod, pow-succ'}
use Rattle.std.proofs.Math.Decide.{dec_lt, dec_le}
use Rattle.std.proofs.Math.Dec.{nleb→lt}
use Rattle.std.proofs.Math.Pow.{mod-mod-pow}
use Rattle.address.specs.Address.{power, mask_digits, bucket_of, split_from}
use Rattle.address.specs.OverLaws.{Over, over-unique, power-grows}
use Rattle.address.specs.MaskLaws.{mask_is, mask-suc, low_digits, high-double, low-size, digits-mask}

-- ---- the bucket of a hash code by a low mask of i digits

abbrev bucket_by : ℕ → ℕ → ℕ → ℕ
bucket_by i m h = cond (leb (h % (2 * 2 ^ i)) m) (h % (2 * 2 ^ i)) (h % 2 ^ i)

small : (i m h : ℕ) → h % (2 * 2 ^ i) ≤ m → bucket_by i m h ≡ h % (2 * 2 ^ i)
small i m h l = go (leb (h % (2 * 2 ^ i)) m) refl
  where
    go : (b : Bool) → leb (h % (2 * 2 ^ i)) m ≡ b → cond b (h % (2 * 2 ^ i)) (h % 2 ^ i) ≡ h % (2 * 2 ^ i)
    go true e = refl
    go false e = absurd (omega (arith, nleb→lt (h % (2 * 2 ^ i)) m (rw e tt)))

big : (i m h : ℕ) → m < h % (2 * 2 ^ i) → bucket_by i m h ≡ h % 2 ^ i
big i m h l = go (leb (h % (2 * 2 ^ i)) m) refl
  where
    go : (b : Bool) → leb (h % (2 * 2 ^ i)) m ≡ b → cond b (h % (2 * 2 ^ i)) (h % 2 ^ i) ≡ h % 2 ^ i
    go false e = refl
    go true e = absurd (omega (arith, leb→le (h % (2 * 2 ^ i)) m (rw e tt)))

mod-half : (i h : ℕ) → h % 2 ^ i ≡ h % (2 * 2 ^ i) % 2 ^ i
mod-half i h = sym (mod-mod-pow h 1 i) ∙ ap (λ (x : ℕ). h % x % 2 ^ i) (ap (λ (x : ℕ). 2 ^ x) (one-add i) ∙ pow-succ' 2 i)

half-low : (i h : ℕ) → h % (2 * 2 ^ i) < 2 ^ i → h % 2 ^ i ≡ h % (2 * 2 ^ i)
half-low i h l = mod-half i h ∙ mod-eq_of_lt l

half_high : (i h : ℕ) → 2 ^ i ≤ h % (2 * 2 ^ i) → h % 2 ^ i ≡ h % (2 * 2 ^ i) - 2 ^ i
half_high i h l =
    let u : h % (2 * 2 ^ i) < 2 * 2 ^ i = mod-lt h (omega (arith, pow_pos i)) in
    mod-half i h ∙ mod-eq-sub-mod l ∙ mod-eq_of_lt (omega arith)

-- one bucket more, the masks kept
keeps : (i m h : ℕ) → bucket_by i (suc m) h ≢ suc m → bucket_by i (suc m) h ≡ bucket_by i m h
keeps i m h ne = go (dec_le (h % (2 * 2 ^ i)) m) (dec_le (h % (2 * 2 ^ i)) (suc m))
  where
    go : Dec (h % (2 * 2 ^ i) ≤ m) → Dec (h % (2 * 2 ^ i) ≤ suc m) → bucket_by i (suc m) h ≡ bucket_by i m h
    go (yes l) d = small i (suc m) h (omega arith) ∙ sym (small i m h l)
    go (no l) (no g) = big i (suc m) h (omega arith) ∙ sym (big i m h (omega arith))
    go (no l) (yes g) = absurd (ne (small i (suc m) h g ∙ omega arith))

goes : (i m h : ℕ) → 2 ^ i ≤ suc m → bucket_by i (suc m) h ≡ suc m → bucket_by i m h ≡ suc m - 2 ^ i
goes i m h low e = go (dec_le (h % (2 * 2 ^ i)) (suc m))
  where
    go : Dec (h % (2 * 2 ^ i) ≤ suc m) → bucket_by i m h ≡ suc m - 2 ^ i
    go (yes l) =
        let x : h % (2 * 2 ^ i) ≡ suc m = sym (small i (suc m) h l) ∙ e in
        big i m h (omega arith) ∙ half_high i h (omega arith) ∙ ap (λ (y : ℕ). y - 2 ^ i) x
    go (no l) = absurd (omega (arith, big i (suc m) h (omega arith), e, mod-lt h {m = 2 ^ i} (pow_pos i)))

-- at the last bucket of a size, the next masks give the same bucket
doubles : (i m h : ℕ) → suc m ≡ 2 * 2 ^ i → bucket_by (suc i) m h ≡ bucket_by i m h
doubles i m h e = go (dec_le (h % (2 * 2 ^ suc i)) m)
  where
    d : 2 * 2 ^ i ≡ 2 ^ suc i
    d = sym (pow-succ' 2 i)

    l : h % (2 * 2 ^ i) ≤ m
    l = omega (arith, e, mod-lt h {m = 2 * 2 ^ i} (omega (arith, pow_pos i)))

    go : Dec (h % (2 * 2 ^ suc i) ≤ m) → bucket_by (suc i) m h ≡ bucket_by i m h
    go (yes s) =
        small (suc i) m h s ∙ sym (half-low (suc i) h (omega (arith, e, d)))
        ∙ ap (λ (x : ℕ). h % x) (sym d) ∙ sym (small i m h l)
    go (no s) = big (suc i) m h (omega arith) ∙ ap (λ (x : ℕ). h % x) (sym d) ∙ sym (small i m h l)

-- ---- by max bucket

bucket-by : (m h : ℕ) → bucket_of m h ≡ bucket_by (low_digits m) m h
unfolding bucket_of
bucket-by m h = rw (high-double m, low-size m)

-- i digits are those of the low mask of m
record Low (m i : ℕ) : Type 0 where
  high : m < 2 * 2 ^ i
  one : 1 ≤ i
  low : 1 < i → 2 ^ i ≤ m

low-is : (m : ℕ) → Low m (low_digits m)
low-is m =
    let a = mask_is m in
    let e : mask_digits m ≡ suc (low_digits m) = mask-suc m in
    let o : m < 2 ^ suc (low_digits m) = rw (← e) a.over in
    record {
      high = omega (arith, o, pow-succ' 2 (low_digits m));
      one = omega (arith, a.from);
      low = λ l. a.least (omega (arith, e, l));
    }

low-pos : (m : ℕ) → 2 ≤ m → 2 ^ low_digits m ≤ m
low-pos m h = go (dec_lt 1 (low_digits m))
  where
    go : Dec (1 < low_digits m) → 2 ^ low_digits m ≤ m
    go (yes l) = (low-is m).low l
    go (no l) = let e : low_digits m ≡ 1 = omega (arith, (low-is m).one) in rw e h

-- the masks of one bucket more: kept, or doubled where the last size is full
data Next (m : ℕ) : Type 0 where
  kept : low_digits (suc m) ≡ low_digits m → Next m
  doubled : suc m ≡ 2 * 2 ^ low_digits m → low_digits (suc m) ≡ suc (low_digits m) → Next m

next : (m : ℕ) → 1 ≤ m → Next m
next m h = go (dec_lt (suc m) (2 * 2 ^ low_digits m))
  where
    a : Over power 2 m (mask_digits m)
    a = mask_is m

    e : mask_digits m ≡ suc (low_digits m)
    e = mask-suc m

    same : (j : ℕ) → Over power 2 (suc m) j → mask_digits (suc m) ≡ j
    same j o = over-unique power power-grows 2 (suc m) (mask_digits (suc m)) j (mask_is (suc m)) o

    go : Dec (suc m < 2 * 2 ^ low_digits m) → Next m
    go (yes l) =
        kept (ap pred (same (mask_digits m) (record {
          from = a.from;
          over = rw e (omega (arith, l, pow-succ' 2 (low_digits m)));
          least = λ g. omega (arith, a.least g);
        })))
    go (no l) =
        let f : suc m ≡ 2 * 2 ^ low_digits m = omega (arith, l, (low-is m).high) in
        doubled f (ap pred (same (suc (suc (low_digits m))) (record {
          from = omega arith;
          over = omega (arith, f, pow-succ' 2 (low_digits m), pow-succ' 2 (suc (low_digits m)), pow_pos (low_digits m));
          least = λ g. omega (arith, f, pow-succ' 2 (low_digits m));
        })))

-- before a begin a hash code's bucket is by the masks that hold after it
bucket-before : (m h : ℕ) → 1 ≤ m → bucket_of m h ≡ bucket_by (low_digits (suc m)) m h
bucket-before m h l = go (next m l)
  where
    go : Next m → bucket_of m h ≡ bucket_by (low_digits (suc m)) m h
    go (kept e) = bucket-by m h ∙ ap (λ (i : ℕ). bucket_by i m h) (sym e)
    go (doubled f e) = bucket-by m h ∙ sym (doubles (low_digits m) m h f) ∙ ap (λ (i : ℕ). bucket_by i m h) (sym e)

-- THE LAW, in its two halves: a hash code keeps its bucket, or goes from the bucket that splits to the new one
pub bucket-stays : (m h : ℕ) → 1 ≤ m → bucket_of (suc m) h ≢ suc m → bucket_of (suc m) h ≡ bucket_of m h
bucket-stays m h l ne =
    bucket-by (suc m) h ∙ keeps (low_digits (suc m)) m h (λ e. ne (bucket-by (suc m) h ∙ e)) ∙ sym (bucket-before m h l)

pub bucket-splits : (m h : ℕ) → 1 ≤ m → bucket_of (suc m) h ≡ suc m → bucket_of m h ≡ split_from (suc m)
unfolding split_from
bucket-splits m h l e =
    bucket-before m h l
    ∙ goes (low_digits (suc m)) m h (low-pos (suc m) (omega arith)) (sym (bucket-by (suc m) h) ∙ e)
    ∙ ap (λ (d : ℕ). suc m - 2 ^ pred d) (sym (digits-mask (suc m) (omega arith)))

pub bucket-le : (m h : ℕ) → 1 ≤ m → bucket_of m h ≤ m
bucket-le m h l = rw bucket-by (go (dec_le (h % (2 * 2 ^ low_digits m)) m))
  where
    low-cases : Dec (1 < low_digits m) → h % 2 ^ low_digits m < 2 ^ low_digits m → h % 2 ^ low_digits m ≤ m
    low-cases (yes g) x = omega (arith, (low-is m).low g)
    low-cases (no g) x =
        let e : low_digits m ≡ 1 = omega (arith, (low-is m).one) in
        omega (arith, ap (λ (i : ℕ). 2 ^ i) e)

    go : Dec (h % (2 * 2 ^ low_digits m) ≤ m) → bucket_by (low_digits m) m h ≤ m
    go (yes s) = rw (small (low_digits m) m h s) s
    go (no s) =
        let b : m < h % (2 * 2 ^ low_digits m) = omega arith in
        rw (big (low_digits m) m h b) (low-cases (dec_lt 1 (low_digits m)) (mod-lt h (pow_pos (low_digits m))))
