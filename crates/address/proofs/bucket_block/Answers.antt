use Rattle.std.proofs.Common.{List, ap, arith, get_or, pred, refl, suc, zero, ℕ, ◌+◌, ◌-◌, ◌≡◌, ◌≤◌}
use Rattle.address.specs.Address.{bucket_point, bucket_block}
use Rattle.address.specs.PointLaws.{bucket_point-pos, bucket_point-le}
use Rattle.address.proofs.bucket_block.Goals as goal

first : (sp : List ℕ) (b : ℕ) → b ≡ 0 → 1 ≡ bucket_block sp b
unfolding bucket_block
first sp zero e = refl
first sp (suc b) e = absurd (omega arith)

later : (sp : List ℕ) (b g : ℕ) → 1 ≤ b → g ≡ bucket_point b → b + get_or sp (g - 1) 0 + 1 ≡ bucket_block sp b
unfolding bucket_block
later sp zero g h e = absurd (omega arith)
later sp (suc b) g h e =
    let q : g - 1 ≡ pred (bucket_point (suc b)) = omega arith in
    ap (λ (i : ℕ). suc b + get_or sp i 0 + 1) q

pub returns-then-bucket-eq0 : goal.returns-then-bucket-eq0
returns-then-bucket-eq0 c = first c.args.spares c.args.bucket c.if-bucket-eq0.true

pub overflow_sub-before : goal.overflow_sub-before
overflow_sub-before c = omega (arith, c.point_of_bucket.ensures, bucket_point-pos c.args.bucket (omega arith))

pub bounds-spares-before : goal.bounds-spares-before
bounds-spares-before c =
    omega (arith, c.point_of_bucket.ensures, bucket_point-le c.args.bucket 16 c.requires.0)

block-is : (c : goal.After-point_of_bucket)
    → c.args.bucket + get_or c.args.spares (c.point_of_bucket.result - 1) 0 + 1
    ≡ bucket_block c.args.spares c.args.bucket
block-is c =
    let a = c.args in
    later a.spares a.bucket c.point_of_bucket.result (omega arith) c.point_of_bucket.ensures

pub overflow_add-result : goal.overflow_add-result
overflow_add-result c = record { fits = omega (arith, block-is c, c.requires.1) }

pub overflow_add-result-2 : goal.overflow_add-result-2
overflow_add-result-2 c = record { fits = omega (arith, block-is c, c.requires.1) }

pub returns : goal.returns
returns c = block-is c
