-- Blocks of buckets and overflow bits: each its own, past the meta block and below the made ones; more spares move none.
use Rattle.std.specs.Prelude.{◌≡◌, ◌≢◌, Bool, true, false, List, ltb}
use Rattle.std.proofs.Math.Path.{refl, subst}
use Rattle.std.proofs.Common.{sym, ltb→lt, nltb→le}
use Prim.Native.Nat.{ℕ, zero, suc, pred, ◌+◌, ◌≤◌, ◌<◌}
use native.Mathlib.Omega.{arith}
use Rattle.std.proofs.Math.Decide.{dec_le, dec_lt}
use Rattle.std.proofs.Math.ListN.{get_or}
use Rattle.address.specs.Address.{buckets_at, point, bucket_point, bucket_block, bit_point, bit_block, made}
use Rattle.address.specs.OverLaws.{Over, over-is, buckets-grow, buckets-mono, buckets-zero}
use Rattle.address.specs.OverLaws.{buckets-one}
use Rattle.address.specs.Role.{SparesOk}

pub bucket_point-is : (b : ℕ) → Over buckets_at 0 b (bucket_point b)
unfolding bucket_point
bucket_point-is b = over-is buckets_at buckets-grow (omega (arith, buckets-zero)) 0 b

pub point-is : (m : ℕ) → Over buckets_at 1 m (point m)
unfolding point
point-is m = over-is buckets_at buckets-grow (omega (arith, buckets-zero)) 1 m

pub point-pos : (m : ℕ) → 1 ≤ point m
point-pos m = (point-is m).from

-- the point of an overflow bit, looked for from i on in k more
pub record PointIs (sp : List ℕ) (n i k r : ℕ) : Type 0 where
  pub from : i ≤ r
  pub upto : r ≤ i + k
  pub below : n < get_or sp (i + k) 0 → n < get_or sp r 0
  pub least : i < r → get_or sp (pred r) 0 ≤ n

pub bit_point-is : (sp : List ℕ) (n i k : ℕ) → PointIs sp n i k (bit_point sp n i k)
bit_point-is sp n i zero =
    let e : i + 0 ≡ i = omega arith in
    record {
      from = omega arith;
      upto = omega arith;
      below = λ h. subst (λ (j : ℕ). n < get_or sp j 0) e h;
      least = λ h. absurd (omega arith);
    }
bit_point-is sp n i (suc k) = go (ltb n (get_or sp i 0)) refl (bit_point-is sp n (suc i) k)
  where
    go : (b : Bool) → ltb n (get_or sp i 0) ≡ b → PointIs sp n (suc i) k (bit_point sp n (suc i) k)
        → PointIs sp n i (suc k) (elim b [ true ↦ i | false ↦ bit_point sp n (suc i) k ])
    go true e g =
        record {
          from = omega arith;
          upto = omega arith;
          below = λ h. ltb→lt n (get_or sp i 0) (rw e tt);
          least = λ h. absurd (omega arith);
        }
    go false e g =
        let q : suc i + k ≡ i + suc k = omega arith in
        record {
          from = omega (arith, g.from);
          upto = omega (arith, g.upto);
          below = λ h. g.below (subst (λ (j : ℕ). n < get_or sp j 0) (sym q) h);
          least = λ h. low (dec_lt (suc i) (bit_point sp n (suc i) k));
        }
      where
        low : Dec (suc i < bit_point sp n (suc i) k) → get_or sp (pred (bit_point sp n (suc i) k)) 0 ≤ n
        low (yes l) = g.least l
        low (no l) =
            let q : bit_point sp n (suc i) k ≡ suc i = omega (arith, g.from) in
            rw q (nltb→le n (get_or sp i 0) (rw e tt))

module _ (sp : List ℕ) (s n : ℕ) (ok : SparesOk sp s n) (pos : 1 ≤ s) where
  pub spares-mono : (i j : ℕ) → i ≤ j → j ≤ s → get_or sp i 0 ≤ get_or sp j 0
  spares-mono i zero h l = let e : i ≡ 0 = omega arith in rw e (omega arith)
  spares-mono i (suc j) h l = go (dec_le i j) (spares-mono i j)
    where
      go : Dec (i ≤ j) → (i ≤ j → j ≤ s → get_or sp i 0 ≤ get_or sp j 0) → get_or sp i 0 ≤ get_or sp (suc j) 0
      go (yes k) ih = omega (arith, ih k (omega arith), ok.rising j l)
      go (no k) ih = let e : i ≡ suc j = omega arith in rw e (omega arith)

  -- overflow bit m of point i
  pub record BitAt (m i : ℕ) : Type 0 where
    pub one : 1 ≤ i
    pub last : i ≤ s
    pub under : m < get_or sp i 0
    pub over : get_or sp (pred i) 0 ≤ m
    pub block : bit_block sp s m ≡ buckets_at i + m + 1

  pub bit_at : (m : ℕ) → m < get_or sp s 0 → BitAt m (bit_point sp m 1 (pred s))
  unfolding bit_block
  bit_at m h =
      let g = bit_point-is sp m 1 (pred s) in
      let e : 1 + pred s ≡ s = omega arith in
      record {
        one = g.from;
        last = omega (arith, g.upto);
        under = g.below (subst (λ (j : ℕ). m < get_or sp j 0) (sym e) h);
        over = low g (dec_lt 1 (bit_point sp m 1 (pred s)));
        block = refl;
      }
    where
      low : PointIs sp m 1 (pred s) (bit_point sp m 1 (pred s)) → Dec (1 < bit_point sp m 1 (pred s))
          → get_or sp (pred (bit_point sp m 1 (pred s))) 0 ≤ m
      low g (yes l) = g.least l
      low g (no l) = let q : bit_point sp m 1 (pred s) ≡ 1 = omega (arith, g.from) in rw q (omega (arith, ok.zeroth))

  -- bucket b of at least 1, of point g
  pub record BucketAt (b g : ℕ) : Type 0 where
    pub one : 1 ≤ g
    pub last : g ≤ s
    pub under : b < buckets_at g
    pub over : buckets_at (pred g) ≤ b
    pub block : bucket_block sp b ≡ b + get_or sp (pred g) 0 + 1

  pub bucket-at : (b : ℕ) → 1 ≤ b → b < buckets_at s → BucketAt b (bucket_point b)
  unfolding bucket_block
  bucket-at zero h l = absurd (omega arith)
  bucket-at (suc b) h l =
      let a = bucket_point-is (suc b) in
      let g : 1 ≤ bucket_point (suc b) = first (bucket_point (suc b)) refl in
      record { one = g; last = most (dec_le (bucket_point (suc b)) s) a; under = a.over; over = a.least g; block = refl }
    where
      first : (j : ℕ) → bucket_point (suc b) ≡ j → 1 ≤ j
      first zero e =
          absurd (omega (arith, buckets-zero, subst (λ (k : ℕ). suc b < buckets_at k) e (bucket_point-is (suc b)).over))
      first (suc j) e = omega arith

      most : Dec (bucket_point (suc b) ≤ s) → Over buckets_at 0 (suc b) (bucket_point (suc b)) → bucket_point (suc b) ≤ s
      most (yes k) a = k
      most (no k) a =
          absurd (omega (arith, buckets-mono s (pred (bucket_point (suc b))) (omega arith), a.least (omega arith)))

  -- ---- each has a block of its own

  bit-not-bucket : (m b i g : ℕ) → BitAt m i → BucketAt b g → bit_block sp s m ≢ bucket_block sp b
  bit-not-bucket m b i g x y e = go (dec_le g i)
    where
      go : Dec (g ≤ i) → ⊥
      go (yes h) =
          omega (
            arith,
            e,
            x.block,
            y.block,
            buckets-mono g i h,
            x.over,
            y.under,
            spares-mono (pred g) (pred i) (omega (arith, x.one, y.one)) (omega (arith, x.last)),
          )
      go (no h) =
          let p : i ≤ pred g = omega arith in
          omega (
            arith,
            e,
            x.block,
            y.block,
            x.under,
            y.over,
            buckets-mono i (pred g) p,
            spares-mono i (pred g) p (omega (arith, y.last)),
          )

  bit-mono : (m k i j : ℕ) → m < k → BitAt m i → BitAt k j → bit_block sp s m < bit_block sp s k
  bit-mono m k i j h x y = go (dec_le i j)
    where
      go : Dec (i ≤ j) → bit_block sp s m < bit_block sp s k
      go (yes l) = omega (arith, x.block, y.block, buckets-mono i j l)
      go (no l) =
          absurd (omega (arith, x.over, y.under, spares-mono j (pred i) (omega arith) (omega (arith, x.last))))

  bucket-mono : (b d g k : ℕ) → b < d → BucketAt b g → BucketAt d k → bucket_block sp b < bucket_block sp d
  bucket-mono b d g k h x y = go (dec_le g k)
    where
      go : Dec (g ≤ k) → bucket_block sp b < bucket_block sp d
      go (yes l) =
          omega (
            arith,
            x.block,
            y.block,
            spares-mono (pred g) (pred k) (omega (arith, x.one, y.one)) (omega (arith, y.last)),
          )
      go (no l) =
          let p : k ≤ pred g = omega arith in
          absurd (omega (arith, x.over, y.under, buckets-mono k (pred g) p))

  pub bit-pos : (m : ℕ) → 3 ≤ bit_block sp s m
  unfolding bit_block
  bit-pos m = omega (arith, buckets-one, buckets-mono 1 (bit_point sp m 1 (pred s)) (bit_point-is sp m 1 (pred s)).from)

  pub bucket-pos : (b : ℕ) → 1 ≤ bucket_block sp b
  unfolding bucket_block
  bucket-pos zero = omega arith
  bucket-pos (suc b) = omega arith

  pub bit-apart : (m k : ℕ) → m < get_or sp s 0 → k < get_or sp s 0 → m ≢ k → bit_block sp s m ≢ bit_block sp s k
  bit-apart m k h l ne e = go (dec_lt m k)
    where
      go : Dec (m < k) → ⊥
      go (yes q) = omega (arith, e, bit-mono m k _ _ q (bit_at m h) (bit_at k l))
      go (no q) = let r : k < m = omega arith in omega (arith, e, bit-mono k m _ _ r (bit_at k l) (bit_at m h))

  pub bit-bucket-apart : (m b : ℕ) → m < get_or sp s 0 → b < buckets_at s → bit_block sp s m ≢ bucket_block sp b
  unfolding bucket_block
  bit-bucket-apart m zero h l e = omega (arith, e, bit-pos m)
  bit-bucket-apart m (suc b) h l e =
      bit-not-bucket m (suc b) _ _ (bit_at m h) (bucket-at (suc b) (omega arith) l) e

  pub bucket-apart : (b d : ℕ) → b < buckets_at s → d < buckets_at s → b ≢ d → bucket_block sp b ≢ bucket_block sp d
  unfolding bucket_block
  bucket-apart b d h l ne e = go (dec_lt b d)
    where
      both : (b d : ℕ) → b < buckets_at s → d < buckets_at s → b < d → bucket_block sp b ≡ bucket_block sp d → ⊥
      both b zero h l q e = omega arith
      both zero (suc d) h l q e = omega arith
      both (suc b) (suc d) h l q e =
          omega (arith, e, bucket-mono (suc b) (suc d) _ _ q (bucket-at (suc b) (omega arith) h) (bucket-at (suc d) (omega arith) l))

      go : Dec (b < d) → ⊥
      go (yes q) = both b d h l q e
      go (no q) = both d b l h (omega arith) (sym e)

  -- ---- below the made blocks

  pub bit-made : (m : ℕ) → m < get_or sp s 0 → bit_block sp s m < made sp s
  unfolding made
  bit-made m h = let x = bit_at m h in omega (arith, x.block, buckets-mono (bit_point sp m 1 (pred s)) s x.last)

  pub bucket-made : (b : ℕ) → b < buckets_at s → bucket_block sp b < made sp s
  unfolding bucket_block made
  bucket-made zero l = omega (arith, buckets-zero, buckets-mono 0 s (omega arith))
  bucket-made (suc b) l =
      let y = bucket-at (suc b) (omega arith) l in
      omega (arith, spares-mono (pred (bucket_point (suc b))) s (omega (arith, y.last)) (omega arith))
