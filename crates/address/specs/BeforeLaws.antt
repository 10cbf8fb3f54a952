-- Up to point 9 all addresses are those of before request 2026-09.
use Rattle.std.specs.Prelude.{◌≡◌, refl, List, ℕ, zero, suc, pred, ◌+◌, ◌≤◌, ◌<◌}
use Rattle.std.proofs.Math.Path.{ap, ap₂}
use Rattle.std.proofs.Common.{◌∙◌, arith}
use Rattle.std.proofs.Math.Decide.{dec_lt}
use Rattle.std.proofs.Math.Dec.{eqb}
use Rattle.std.proofs.Math.ListN.{get_or}
use Rattle.lists.specs.RunLaws.{find-same}
use Rattle.address.specs.Address.{first_over, power, buckets_at, point, bucket_point, bucket_block, bit_point}
use Rattle.address.specs.Address.{bit_block, made}
use Rattle.address.specs.Role.{role_from, role_of}
use Rattle.address.specs.Before.{point_before, bucket_before, bit_before, made_before, role_before, AsBefore}
use Rattle.address.specs.PhaseLaws.{buckets-low}
use Rattle.address.specs.OverLaws.{Over, over-is, over-unique, power-grows, buckets-mono}
use Rattle.address.specs.BlockLaws.{point-is, bucket_point-is, bit_point-is}

-- the smallest number by either function, where it is below 10 by the one
same_over : (k n j : ℕ) → Over buckets_at k n j → j < 10 → Over power k n j
same_over k n j o h =
    record {
      from = o.from;
      over = omega (arith, o.over, buckets-low j h);
      least = λ l. omega (arith, o.least l, buckets-low (pred j) (omega arith));
    }

first-before : (k n j : ℕ) → Over buckets_at k n j → j < 10 → j ≡ first_over power n k n
first-before k n j o h =
    over-unique power power-grows k n j (first_over power n k n) (same_over k n j o h)
    (over-is power power-grows (omega arith) k n)

-- a number below 512 has a point below 10
few : (k n j : ℕ) → k < 10 → n < 512 → Over buckets_at k n j → j < 10
few k n j l h o = go (dec_lt j 10)
  where
    go : Dec (j < 10) → j < 10
    go (yes d) = d
    go (no d) =
        let up = buckets-mono 9 (pred j) (omega arith) in
        absurd (omega (arith, o.least (omega arith), up, buckets-low 9 (omega arith)))

pub point-few : (m : ℕ) → m < 512 → point m < 10
point-few m h = few 1 m (point m) (omega arith) h (point-is m)

pub point-before : (m : ℕ) → m < 512 → point m ≡ point_before m
unfolding point_before
point-before m h = first-before 1 m (point m) (point-is m) (point-few m h)

bucket-before : (sp : List ℕ) (b : ℕ) → b < 512 → bucket_block sp b ≡ bucket_before sp b
unfolding bucket_block bucket_before
bucket-before sp zero h = refl
bucket-before sp (suc b) h =
    ap (λ (g : ℕ). suc b + get_or sp (pred g) 0 + 1)
    (first-before 0 (suc b) (bucket_point (suc b)) (bucket_point-is (suc b))
    (few 0 (suc b) (bucket_point (suc b)) (omega arith) h (bucket_point-is (suc b))))

module _ (sp : List ℕ) (s : ℕ) (low : s < 10) where
  bit-before : (n : ℕ) → bit_block sp s n ≡ bit_before sp s n
  unfolding bit_block bit_before
  bit-before n =
      let i = bit_point sp n 1 (pred s) in
      ap (λ (x : ℕ). x + n + 1) (buckets-low i (omega (arith, (bit_point-is sp n 1 (pred s)).upto)))

  pub made-before : made sp s ≡ made_before sp s
  unfolding made made_before
  made-before = ap (λ (x : ℕ). x + get_or sp s 0 + 1) (buckets-low s low)

  role-before : (k : ℕ) → role_of sp s k ≡ role_before sp s k
  unfolding role_of role_before
  role-before k =
      let e = buckets-low s low in
      let few : buckets_at s ≤ 512 = omega (arith, buckets-mono s 9 (omega arith), buckets-low 9 (omega arith)) in
      ap₂ (role_from (eqb k 0))
      (find-same _ _ 0 (power s) (buckets_at s) (omega arith)
      (λ b l g. ap (λ (x : ℕ). eqb x k) (bucket-before sp b (omega arith))) (λ b l g. absurd (omega arith)))
      (find-same _ _ 0 (get_or sp s 0) (get_or sp s 0) (omega arith)
      (λ n l g. ap (λ (x : ℕ). eqb x k) (bit-before n)) (λ n l g. absurd (omega arith)))

pub as_before : (m : ℕ) (sp : List ℕ) → m < 512 → AsBefore m sp
as_before m sp h =
    let e = point-before m h in
    let low = point-few m h in
    record {
      points = e;
      blocks = made-before sp (point m) low ∙ ap (made_before sp) e;
      roles = λ k. role-before sp (point m) low k ∙ ap (λ (s : ℕ). role_before sp s k) e;
      buckets = λ b l. bucket-before sp b (omega arith);
      bits = λ n. bit-before sp (point m) low n ∙ ap (λ (s : ℕ). bit_before sp s n) e;
    }
