-- The point of a bucket by its number of digits: its group, and from group 10 on the phase that it came with, which the
-- two digits after the first tell.
use Rattle.std.specs.Prelude.{◌≡◌, refl, ℕ, zero, suc, pred, ◌+◌, ◌-◌, ◌*◌, ◌/◌, ◌%◌, ◌^◌, ◌≤◌, ◌<◌}
use Rattle.std.proofs.Common.{ap, div-add-mod', mod-lt, le-div_iff_mul-le, div-lt_iff_lt-mul, suc-mul, arith, pow_pos}
use Rattle.std.proofs.Math.Nat.{pow-succ'}
use Rattle.std.proofs.Math.Decide.{dec_lt}
use Rattle.address.specs.Address.{power, buckets_at, bit_length, bucket_point}
use Rattle.address.specs.PhaseLaws.{buckets-low, buckets-phase}
use Rattle.address.specs.OverLaws.{Over, over-unique, buckets-grow}
use Rattle.address.specs.MaskLaws.{digits-is}
use Rattle.address.specs.BlockLaws.{bucket_point-is}

pub point-low : (b : ℕ) → bit_length b < 10 → bucket_point b ≡ bit_length b
point-low b h =
    over-unique buckets_at buckets-grow 0 b (bucket_point b) (bit_length b) (bucket_point-is b)
    (record {
      from = omega arith;
      over = omega (arith, buckets-low (bit_length b) h, (digits-is b).over);
      least = λ l. omega (arith, buckets-low (pred (bit_length b)) (omega arith), (digits-is b).least l);
    })

module _ (b e : ℕ) (group : bit_length b ≡ 10 + e) where
  low : 4 * 2 ^ (7 + e) ≤ b
  low =
      let d : pred (bit_length b) ≡ suc (suc (7 + e)) = omega arith in
      omega (arith, (digits-is b).least (omega arith), ap power d, pow-succ' 2 (suc (7 + e)), pow-succ' 2 (7 + e))

  high : b < 8 * 2 ^ (7 + e)
  high =
      let d : bit_length b ≡ suc (suc (suc (7 + e))) = omega arith in
      omega (
        arith,
        (digits-is b).over,
        ap power d,
        pow-succ' 2 (suc (suc (7 + e))),
        pow-succ' 2 (suc (7 + e)),
        pow-succ' 2 (7 + e),
      )

  pub quarter-low : 4 ≤ b / 2 ^ (7 + e)
  quarter-low = (le-div_iff_mul-le (pow_pos (7 + e))).1 low

  pub quarter-high : b / 2 ^ (7 + e) < 8
  quarter-high = (div-lt_iff_lt-mul (pow_pos (7 + e))).1 high

  pub point-high : bucket_point b ≡ 10 + 4 * e + (b / 2 ^ (7 + e) - 4)
  point-high = over-unique buckets_at buckets-grow 0 b (bucket_point b) (10 + 4 * e + (q - 4)) (bucket_point-is b) quarters
    where
      q : ℕ
      q = b / 2 ^ (7 + e)

      part : q * 2 ^ (7 + e) + b % 2 ^ (7 + e) ≡ b
      part = div-add-mod' b (2 ^ (7 + e))

      more : suc q * 2 ^ (7 + e) ≡ q * 2 ^ (7 + e) + 2 ^ (7 + e)
      more = suc-mul q (2 ^ (7 + e))

      -- the last phase of the group before, or group 9
      before : (f : ℕ) → e ≡ f → buckets_at (pred (10 + 4 * e)) ≤ b
      before zero z =
          let i : pred (10 + 4 * e) ≡ 9 = omega arith in
          omega (arith, ap buckets_at i, buckets-low 9 (omega arith), low, ap (λ (x : ℕ). 2 ^ (7 + x)) z)
      before (suc f) z =
          let i : 7 + e ≡ suc (7 + f) = omega arith in
          omega (
            arith,
            buckets-phase (pred (10 + 4 * e)) f 3 (omega arith) (omega arith),
            low,
            ap power i,
            pow-succ' 2 (7 + f),
          )

      least : Dec (4 < q) → buckets_at (pred (10 + 4 * e + (q - 4))) ≤ b
      least (yes l) =
          let p : 5 + (q - 5) ≡ q = omega arith in
          omega (
            arith,
            buckets-phase (pred (10 + 4 * e + (q - 4))) e (q - 5) (omega (arith, quarter-high)) (omega arith),
            ap (λ (x : ℕ). x * 2 ^ (7 + e)) p,
            part,
          )
      least (no l) =
          let i : pred (10 + 4 * e + (q - 4)) ≡ pred (10 + 4 * e) = omega arith in
          omega (arith, ap buckets_at i, before e refl)

      quarters : Over buckets_at 0 b (10 + 4 * e + (q - 4))
      quarters =
          let p : 5 + (q - 4) ≡ suc q = omega (arith, quarter-low) in
          record {
            from = omega arith;
            over =
                omega (
                  arith,
                  buckets-phase (10 + 4 * e + (q - 4)) e (q - 4) (omega (arith, quarter-high)) refl,
                  ap (λ (x : ℕ). x * 2 ^ (7 + e)) p,
                  more,
                  part,
                  mod-lt b (pow_pos (7 + e)),
                );
            least = λ _. least (dec_lt 4 q);
          }
