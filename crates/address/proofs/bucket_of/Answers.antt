use Rattle.std.proofs.Common.{arith, bit_and, le-leb, ◌<◌, ◌≤◌}
use borrow.Author.Tests.{lt-leb}
use Rattle.address.specs.MaskLaws.{bucket_of-and}
use Rattle.address.proofs.bucket_of.Goals as goal

pub returns-then-bucket-max : goal.returns-then-bucket-max
returns-then-bucket-max c =
    let a = c.args in
    let h : bit_and a.hash c.high_mask.result ≤ a.max = omega arith in
    rw (bucket_of-and, ← c.high_mask.ensures, le-leb _ _ h)

pub returns : goal.returns
returns c =
    let a = c.args in
    let h : a.max < bit_and a.hash c.high_mask.result = omega arith in
    rw (bucket_of-and, ← c.high_mask.ensures, ← c.low_mask.ensures, lt-leb _ _ h)
